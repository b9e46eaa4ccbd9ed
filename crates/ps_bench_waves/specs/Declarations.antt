-- The declarations of wires as text, by IEEE 1364.
use Rattle.std.specs.Prelude.{ℕ, ◌+◌, ◌==◌, if◌then◌else◌, List, [], ◌∷◌, ◌++◌, flat_map, codes}
use Rattle.std.specs.Str.{bytes_eq}
use Rattle.ps_bench_waves.specs.declared.wire.Wire.{Wire}
use Rattle.ps_bench_waves.specs.declared.wire.Shape.{Shape}
use Rattle.ps_bench_waves.specs.declared.wire.Shape.TheVariants.{Bit, Code, Count, Words}
use Rattle.ps_bench_waves.specs.Identifiers.{identifier}

-- ---- Scopes.

-- what a byte of a scope's names says: a dot ends the line of one scope and begins that of the next
abbrev pub opening_byte : ℕ → List ℕ
opening_byte b = if b == 46 then codes " $end\n$scope module " else b ∷ []

-- the lines that open a scope and those around it
abbrev pub opening : (scope : List ℕ) → List ℕ
opening [] = []
opening (b ∷ names) = codes "$scope module " ++ (flat_map opening_byte (b ∷ names) ++ codes " $end\n")

-- a dot stands for one scope more
abbrev pub closing_byte : ℕ → List ℕ
closing_byte b = if b == 46 then codes "$upscope $end\n" else []

-- the lines that close them
abbrev pub closing : (scope : List ℕ) → List ℕ
closing [] = []
closing (b ∷ names) = flat_map closing_byte (b ∷ names) ++ codes "$upscope $end\n"

-- from the scope that is open to another one, where they differ
abbrev pub between_scopes : (opened scope : List ℕ) → List ℕ
between_scopes opened scope = if bytes_eq opened scope then [] else closing opened ++ opening scope

-- ---- Wires.

-- the type of a wire and the number of its bits
abbrev pub type_text : Shape → List ℕ
type_text Bit = codes "$var wire 1 "
type_text Code = codes "$var wire 16 "
type_text Count = codes "$var wire 64 "
type_text Words = codes "$var string 1 "

-- the numbers of its bits, where there are several, and the end of its line
abbrev pub range_text : Shape → List ℕ
range_text Bit = codes " $end\n"
range_text Code = codes " [15:0] $end\n"
range_text Count = codes " [63:0] $end\n"
range_text Words = codes " $end\n"

-- the line of a wire with a number
abbrev pub wire_text : (number : ℕ) → Wire → List ℕ
wire_text number wire =
    type_text wire.shape ++ (identifier number ++ (codes " " ++ (wire.name ++ range_text wire.shape)))

-- the wires from a number on, where a scope is open, and what closes the last one
abbrev pub wires_text : (opened : List ℕ) → (number : ℕ) → List Wire → List ℕ
wires_text opened number [] = closing opened
wires_text opened number (wire ∷ wires) =
    between_scopes opened wire.scope ++ (wire_text number wire ++ wires_text wire.scope (number + 1) wires)

-- the declarations of wires: times are in milliseconds
abbrev pub header_text : List Wire → List ℕ
header_text wires = codes "$timescale 1 ms $end\n" ++ (wires_text [] 0 wires ++ codes "$enddefinitions $end\n")
