-- The lines in which an explanation is told: a tree, by how deep each line stands.
use Rattle.std.specs.Prelude.{◌≡◌, ◌⊎◌, ◌<◌, ◌+◌, ◌++◌, ◌==◌, ◌&&◌, ℕ, Bool, List, [], Contains, Option, Some, find, flat_map}
use Rattle.std.specs.Prelude.{length, map, nat_lt, not, reverse, slice_get, take}
use Rattle.std.specs.List.{list_any, range_with_len}
use Rattle.std.specs.Option.{option_map_or}
use Rattle.ps_why.specs.Below.{first_line, line_below}
use Rattle.ps_why.specs.declared.lines.Line.{Line}
use Rattle.ps_why.specs.declared.explaining.Explanation.{Explanation}
use Rattle.ps_why.specs.declared.explaining.Reasons.{Reasons}

-- fact n is one of the reasons of fact m
abbrev pub IsReasonOf : Explanation → (m n : ℕ) → Type 0
IsReasonOf e m n = (r : Reasons) × (slice_get e.reasons.items m ≡ Some r) × Contains r.facts.items n

-- After these lines one would stand below a line of them: that is one less deep, its own fact is a reason of that
-- one's, and all lines from there on are deeper than that one.
pub record StandsBelow (e : Explanation) (lines : List Line) (line : Line) : Type 0 where
  pub place : ℕ
  pub above : Line
  pub at : slice_get lines place ≡ Some above
  pub deeper : line.depth ≡ above.depth + 1
  pub reason : IsReasonOf e above.fact line.fact
  pub between : (p : ℕ) (other : Line) → place < p → slice_get lines p ≡ Some other → above.depth < other.depth

-- A line can come after these: it stands at the left, or below one of them.
abbrev pub MayFollow : Explanation → List Line → Line → Type 0
MayFollow e lines line = (line.depth ≡ 0) ⊎ StandsBelow e lines line

-- A line tells one of the facts, and none of these lines tells it.
abbrev pub is_new : Explanation → List Line → Line → Bool
is_new e lines line =
    nat_lt line.fact (length e.facts.items) && not (list_any (λ (told : Line). told.fact == line.fact) lines)

-- the lines right below one: those of the reasons of its fact, in their order
abbrev pub lines_below : Explanation → Line → List Line
lines_below e line = map (line_below line) (option_map_or (λ r. r.facts.items) (slice_get e.reasons.items line.fact) [])

-- The lines that could come after these: those right below the last one, then those below the one before it, and so
-- on; and then those at the left.
abbrev pub candidates : Explanation → List Line → List Line
candidates e lines =
    flat_map (lines_below e) (reverse lines) ++ map first_line (range_with_len 0 (length e.facts.items))

-- the line that comes after these: the first of them that tells a fact that is not told
abbrev pub next_line : Explanation → List Line → Option Line
next_line e lines = find (is_new e lines) (candidates e lines)

-- The lines of an explanation: each fact is told by one line, each line may follow those in front of it; and each is the
-- one that comes after those in front of it, so that the explanation has these lines and no others.
pub record AreLinesOf (e : Explanation) (lines : List Line) : Type 0 where
  pub each : (n : ℕ) → n < length e.facts.items → (line : Line) × Contains lines line × (line.fact ≡ n)
  pub of : (line : Line) → Contains lines line → line.fact < length e.facts.items
  pub once : (p q : ℕ) (a b : Line) → slice_get lines p ≡ Some a → slice_get lines q ≡ Some b → a.fact ≡ b.fact → p ≡ q
  pub follows : (p : ℕ) (line : Line) → slice_get lines p ≡ Some line → MayFollow e (take p lines) line
  pub next : (p : ℕ) → slice_get lines p ≡ next_line e (take p lines)
