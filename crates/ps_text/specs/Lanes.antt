-- The lanes of a picture: a value in scans side by side.
use Rattle.std.specs.Prelude.{◌≡◌, ◌≤◌, ⊤, ℕ, ◌==◌, ◌&&◌, List, [], ◌∷◌, ◌++◌, Option, None, Some, codes, decimal}
use Rattle.std.specs.Prelude.{if◌then◌else◌, nat_le, nat_lt}
use Rattle.std.specs.List.{flat_map}
use Rattle.ps_text.specs.declared.lanes.Span.{Span}

-- two spans side by side as one, with the value of the first
abbrev pub joined : Span → Span → Span
joined s t = record { value = s.value; x = s.x; end = t.end }

-- a span before others that are merged: with the first of them it is one, where they have the same value
abbrev pub before : Span → List Span → List Span
before s [] = s ∷ []
before s (t ∷ ts) = if s.value == t.value then joined s t ∷ ts else s ∷ t ∷ ts

-- spans side by side, of which those that follow one another with the same value are one
abbrev pub merged : List Span → List Span
merged [] = []
merged (s ∷ ss) = before s (merged ss)

-- spans side by side after one that may go on
abbrev pub merged_from : Option Span → List Span → List Span
merged_from None spans = merged spans
merged_from (Some s) spans = before s (merged spans)

-- the value at a place of a picture, by the first span that it lies in
abbrev pub value_at : List Span → (place : ℕ) → Option ℕ
value_at [] place = None
value_at (s ∷ ss) place = if nat_le s.x place && nat_lt place s.end then Some s.value else value_at ss place

-- what comes next begins at a place
abbrev pub BeginAt : (place : ℕ) → List Span → Type 0
BeginAt place [] = ⊤
BeginAt place (s ∷ ss) = s.x ≡ place

-- Spans stand side by side: each ends where the next one begins.
abbrev pub AreSideBySide : List Span → Type 0
AreSideBySide [] = ⊤
AreSideBySide (s ∷ ss) = (s.x ≤ s.end) × BeginAt s.end ss × AreSideBySide ss

-- a step of a line: a letter and a number
abbrev pub step_text : (letter : List ℕ) → (number : ℕ) → List ℕ
step_text letter number = letter ++ decimal number

-- the beginning of a line at a place
abbrev pub start_text : (x y : ℕ) → List ℕ
start_text x y = step_text (codes "M") x ++ step_text (codes " ") y

-- how high the line of a value is: one height for TRUE, and one for FALSE
abbrev pub height : (high low value : ℕ) → ℕ
height high low value = if value == 0 then low else high

-- the height of a span, and along it to its right side
abbrev pub onward : (high low : ℕ) → Span → List ℕ
onward high low s = step_text (codes "V") (height high low s.value) ++ step_text (codes "H") s.end

-- where a line begins: at the left side of its first span, at its height
abbrev pub begun : (high low : ℕ) → List Span → List ℕ
begun high low [] = []
begun high low (s ∷ ss) = start_text s.x (height high low s.value)

-- the line of a signal over spans side by side, as a path of SVG: along each of them it has the height of its value
abbrev pub line_text : (high low : ℕ) → List Span → List ℕ
line_text high low spans = begun high low spans ++ flat_map (onward high low) spans
