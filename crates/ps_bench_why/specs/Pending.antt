-- Lines that are told, and lines that are still to be told. Nothing here is part of what is promised.
use Rattle.std.specs.Prelude.{◌≡◌, ◌<◌, ◌≤◌, ◌+◌, ℕ, Bool, true, List, Contains, ◌++◌, Some, filter, length, nat_lt, reverse}
use Rattle.std.specs.Prelude.{slice_get, take}
use Rattle.std.specs.List.{AllByRecursion}
use Rattle.ps_bench_why.specs.Trees.{IsReasonOf, MayFollow, candidates, is_new, lines_below, next_line}
use Rattle.ps_why.specs.declared.lines.Line.{Line}
use Rattle.ps_why.specs.declared.explaining.Explanation.{Explanation}

-- A line is of one of the facts.
abbrev pub IsOfFact : Explanation → Line → Type 0
IsOfFact e line = line.fact < length e.facts.items

-- So far these lines are told, and it is noted of which facts; the pending ones may follow, the deepest last.
pub record IsTelling (e : Explanation) (told : List Bool) (lines pending : List Line) : Type 0 where
  pub size : length told ≡ length e.facts.items
  pub noted : (n : ℕ) → slice_get told n ≡ Some true → (line : Line) × Contains lines line × (line.fact ≡ n)
  pub notes : (line : Line) → Contains lines line → slice_get told line.fact ≡ Some true
  pub once : (p q : ℕ) (a b : Line) → slice_get lines p ≡ Some a → slice_get lines q ≡ Some b → a.fact ≡ b.fact → p ≡ q
  pub follows : (p : ℕ) (line : Line) → slice_get lines p ≡ Some line → MayFollow e (take p lines) line
  pub hang : (line : Line) → Contains pending line → MayFollow e lines line
  pub of : (line : Line) → Contains pending line → IsOfFact e line
  pub deepest : (i j : ℕ) (a b : Line) → i < j → slice_get pending i ≡ Some a → slice_get pending j ≡ Some b → a.depth ≤ b.depth

-- a line tells a reason of the fact of another, and stands below it
pub record IsChild (e : Explanation) (above line : Line) : Type 0 where
  pub deeper : line.depth ≡ above.depth + 1
  pub reason : IsReasonOf e above.fact line.fact
  pub of : IsOfFact e line

-- such lines come to those that are pending
abbrev pub AddsChildren : Explanation → (above : Line) → (old new : List Line) → Type 0
AddsChildren e above old new = (children : List Line) × (new ≡ old ++ children) × AllByRecursion (IsChild e above) children

-- So far each line is the one that comes after those in front of it; and of the pending lines, the last one first, and
-- of the rest, those that are new are those that could come.
pub record IsInOrder (e : Explanation) (lines pending rest : List Line) : Type 0 where
  pub coming : filter (is_new e lines) (reverse pending ++ rest) ≡ filter (is_new e lines) (candidates e lines)
  pub next : (p : ℕ) → p < length lines → slice_get lines p ≡ next_line e (take p lines)

-- lines that were in order still are, whatever the rest is
abbrev pub KeepsOrder : Explanation → (lines pending lines' pending' : List Line) → Type 0
KeepsOrder e lines pending lines' pending' =
    (rest : List Line) → IsInOrder e lines pending rest → IsInOrder e lines' pending' rest

-- a line tells one of the facts
abbrev pub tells_fact : Explanation → Line → Bool
tells_fact e line = nat_lt line.fact (length e.facts.items)

-- the lines right below one that tell facts, the last one first
abbrev pub children_of : Explanation → Line → List Line
children_of e line = reverse (filter (tells_fact e) (lines_below e line))

-- whatever is noted stays noted
abbrev pub KeepsNotes : (old new : List Bool) → Type 0
KeepsNotes old new = (n : ℕ) → slice_get old n ≡ Some true → slice_get new n ≡ Some true
