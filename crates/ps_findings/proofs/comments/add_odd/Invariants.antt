use Rattle.std.proofs.Common.{◌≡◌, ℕ, List, [], ◌++◌, drop}
use Rattle.ps_notes.specs.declared.note.OddComment.{OddComment}
use Rattle.ps_findings.specs.Comments.{odd_places}
use Rattle.ps_findings.specs.Walking.{HasAdded, IsAt}
use Rattle.ps_findings.proofs.comments.add_odd.Given as goal

-- after the bytes so far, what is odd in them is added, and what is odd in the rest is all that is left
abbrev pub invariant-loop-i : goal.invariant-loop-i
invariant-loop-i l =
    (back : List ℕ) × (more : List OddComment) × IsAt l.walk back × HasAdded more l.initial.odd l.odd
    × (more ++ odd_places back (drop l.i l.text) ≡ odd_places [] l.text)
