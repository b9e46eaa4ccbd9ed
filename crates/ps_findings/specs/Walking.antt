-- What was found of odd comments so far, and where a walk over an application is.
use Rattle.std.specs.Prelude.{◌≡◌, ℕ, ◌++◌, IsTrue, List, drop, slice_index, take}
use Rattle.ps_notes.specs.declared.note.OddComment.{OddComment}
use Rattle.ps_findings.specs.declared.odds.Odd.{Odd}
use Rattle.ps_findings.specs.declared.comments.Walk.{Walk}
use Rattle.ps_findings.specs.Comments.{firsts, place_behind, spot_after}

-- what is told in all, where these are found further
abbrev pub told : Odd → List OddComment → List OddComment
told odd further = take 20 (odd.list.items ++ firsts odd.last further)

-- these were added, unless memory ran out
abbrev pub HasAdded : List OddComment → (old new : Odd) → Type 0
HasAdded more old new =
    IsTrue new.is_whole →
    IsTrue old.is_whole × ((further : List OddComment) → told new further ≡ told old (more ++ further))

-- the walk stands after these bytes, of which the last comes first
pub record IsAt (walk : Walk) (back : List ℕ) : Type 0 where
  pub spot : walk.spot ≡ spot_after back
  pub before : walk.before ≡ spot_after (drop 1 back)
  pub last : walk.last ≡ slice_index back 0
  pub place : walk.place ≡ place_behind back
