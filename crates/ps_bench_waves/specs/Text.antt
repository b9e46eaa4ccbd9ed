-- The value changes of wires as text, by IEEE 1364. The wire with number n has the identifier of n.
use Rattle.std.specs.Prelude.{ℕ, zero, suc, ◌+◌, ◌/◌, ◌%◌, ◌==◌, ◌||◌, not, Bool, true, false, if◌then◌else◌}
use Rattle.std.specs.Prelude.{List, [], ◌∷◌, ◌++◌, flat_map, codes, decimal}
use Rattle.ps_bench_waves.specs.Identifiers.{identifier}
use Rattle.ps_bench_waves.specs.Values.{Held, is_same}
use Rattle.ps_bench_waves.specs.Values.Held.{bit, vector, words}

-- so many binary digits of a number, the highest first
abbrev pub bits : (count number : ℕ) → List ℕ
bits zero number = []
bits (suc count) number = bits count (number / 2) ++ (48 + number % 2) ∷ []

-- a number of so many bits
abbrev pub vector_text : (width number : ℕ) → List ℕ
vector_text width number = codes "b" ++ (bits width number ++ codes " ")

-- a byte of words: a blank as `\x20`
abbrev pub shown_byte : ℕ → List ℕ
shown_byte b = if b == 32 then codes "\\x20" else b ∷ []

-- what stands before the identifier of a wire that has this
abbrev pub value_text : Held → List ℕ
value_text (bit value) = (if value then 49 else 48) ∷ []
value_text (vector width number) = vector_text width number
value_text (words bytes) = codes "s" ++ (flat_map shown_byte bytes ++ codes " ")

-- the line of a change: a wire has this
abbrev pub change_text : (wire : ℕ) → Held → List ℕ
change_text wire value = value_text value ++ (identifier wire ++ codes "\n")

-- what is written of a wire that had this and has this: its line, in any case or where it has another
abbrev pub changed_text : (all : Bool) → (wire : ℕ) → (before now : Held) → List ℕ
changed_text all wire before now = if all || not (is_same before now) then change_text wire now else []

-- the lines of the wires from this number on, which had these and have these: of all, or of those that have another
abbrev pub changes : (all : Bool) → (wire : ℕ) → (last now : List Held) → List ℕ
changes all wire last [] = []
changes all wire [] (value ∷ values) = []
changes all wire (before ∷ last) (value ∷ values) =
    changed_text all wire before value ++ changes all (wire + 1) last values

-- The lines of a scan whose wires had these and have these: in the first one those of all wires, and in each later one
-- those of the wires that have another than before.
abbrev pub lines_text : (begun : Bool) → (last now : List Held) → List ℕ
lines_text true last now = changes false 0 last now
lines_text false last now = codes "$dumpvars\n" ++ (changes true 0 last now ++ codes "$end\n")

-- a scan at a time
abbrev pub scan_text : (begun : Bool) → (last : List Held) → (now : ℕ) → (values : List Held) → List ℕ
scan_text begun last now values = codes "#" ++ (decimal now ++ (codes "\n" ++ lines_text begun last values))

-- a scan: its time in ms, and what each wire has
pub record Moment : Type 0 where
  pub now : ℕ
  pub values : List Held

-- scans, one after another
abbrev pub scans_text : (begun : Bool) → (last : List Held) → List Moment → List ℕ
scans_text begun last [] = []
scans_text begun last (m ∷ moments) = scan_text begun last m.now m.values ++ scans_text true m.values moments
