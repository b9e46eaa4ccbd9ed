-- What is told of an explanation, as text and as JSON.
use Rattle.std.specs.Prelude.{◌≡◌, ℕ, List, [], ◌∷◌, ◌++◌, Option, Some, None, codes, decimal, length, nat_lt, if◌then◌else◌}
use Rattle.std.specs.Prelude.{slice_get}
use Rattle.std.specs.List.{flat_map, range_with_len}
use Rattle.ps_base.specs.declared.failing.Place.{Place}
use Rattle.ps_cover.specs.declared.format.Format.{Format}
use Rattle.ps_cover.specs.declared.format.Format.TheVariants.{Text, Json}
use Rattle.ps_why.specs.declared.explaining.Explanation.{Explanation}
use Rattle.ps_why.specs.declared.explaining.Reasons.{Reasons}
use Rattle.ps_why.specs.declared.fact.Fact.{Fact}
use Rattle.ps_bench_why.specs.Facts.{fact_text}
use Rattle.ps_bench_why.specs.Moments.{Moment}
use Rattle.ps_bench_why.specs.Trees.{AreLinesOf}
use Rattle.ps_why.specs.declared.lines.Line.{Line}

-- how far a line is indented: two blanks for each line above it, and those of forty at most
abbrev pub indents : (depth : ℕ) → ℕ
indents depth = if nat_lt 40 depth then 40 else depth

-- the blanks before a line of this depth
abbrev pub indent_text : (depth : ℕ) → List ℕ
indent_text depth = flat_map (λ n. codes "  ") (range_with_len 0 (indents depth))

-- a fact, if there is one
abbrev pub told_at : Moment → Option Fact → List ℕ
told_at m (Some fact) = fact_text m fact
told_at m None = []

-- where the step stands that makes a fact, if one does: its line and column, counted from 1
abbrev pub place_text : Option (Option Place) → List ℕ
place_text (Some (Some at)) = codes " (" ++ decimal at.line ++ codes ":" ++ decimal at.column ++ codes ")"
place_text (Some None) = []
place_text None = []

-- a line of the tree
abbrev pub line_text : Moment → List Fact → (places : List (Option Place)) → Line → List ℕ
line_text m facts places line =
    indent_text line.depth ++ told_at m (slice_get facts line.fact) ++ place_text (slice_get places line.fact)
    ++ codes "\n"

-- the scan before, if there is one
abbrev pub behind_text : Option ℕ → List ℕ
behind_text None = codes ", the first scan:\n"
behind_text (Some ms) = codes ", behind the scan at " ++ decimal ms ++ codes ":\n"

-- which scan is meant
abbrev pub head_text : Moment → List ℕ
head_text m = codes "At " ++ decimal m.now ++ behind_text m.before

-- the same in JSON (RFC 8259)
abbrev pub json_behind : Option ℕ → List ℕ
json_behind None = codes "null"
json_behind (Some ms) = decimal ms

-- the line of the scan in JSON
abbrev pub json_head : Moment → List ℕ
json_head m = codes "{\"at\":" ++ decimal m.now ++ codes ",\"before\":" ++ json_behind m.before ++ codes "}\n"

-- numbers with commas between them
abbrev pub numbers_text : List ℕ → List ℕ
numbers_text [] = []
numbers_text (n ∷ rest) = decimal n ++ flat_map (λ v. codes "," ++ decimal v) rest

-- the numbers of the facts on which one rests, if it rests on any
abbrev pub reasons_text : Option Reasons → List ℕ
reasons_text (Some r) = numbers_text r.facts.items
reasons_text None = []

-- a place in JSON, after another member
abbrev pub json_place : Option (Option Place) → List ℕ
json_place (Some (Some at)) = codes ",\"line\":" ++ decimal at.line ++ codes ",\"column\":" ++ decimal at.column
json_place (Some None) = []
json_place None = []

-- a fact in JSON: its number, its words, where the step stands that makes it, and the numbers of the facts on which it
-- rests
abbrev pub json_fact : Moment → Explanation → (places : List (Option Place)) → (n : ℕ) → List ℕ
json_fact m e places n =
    codes "{\"fact\":" ++ decimal n ++ codes ",\"told\":\"" ++ told_at m (slice_get e.facts.items n) ++ codes "\""
    ++ json_place (slice_get places n)
    ++ codes ",\"because\":[" ++ reasons_text (slice_get e.reasons.items n) ++ codes "]}\n"

-- all facts by their numbers
abbrev pub json_text : Moment → Explanation → (places : List (Option Place)) → List ℕ
json_text m e places = json_head m ++ flat_map (json_fact m e places) (range_with_len 0 (length e.facts.items))

-- the tree of these lines
abbrev pub tree_text : Moment → Explanation → (places : List (Option Place)) → List Line → List ℕ
tree_text m e places lines = head_text m ++ flat_map (line_text m e.facts.items places) lines

-- An explanation is told, with a place for each fact, if it has one: in text as a tree in which each fact stands once,
-- below one of which it is a reason; in JSON fact by fact with the numbers of its reasons.
abbrev pub IsToldAs : Moment → Explanation → (places : List (Option Place)) → Format → (text : List ℕ) → Type 0
IsToldAs m e places Text text = (lines : List Line) × AreLinesOf e lines × (text ≡ tree_text m e places lines)
IsToldAs m e places Json text = text ≡ json_text m e places
