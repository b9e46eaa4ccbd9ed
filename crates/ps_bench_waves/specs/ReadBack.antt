-- Which scans and declarations a reader gives back, and as what.
use Rattle.std.specs.Prelude.{◌≡◌, ◌<◌, ◌^◌, ◌&&◌, ◌==◌, ℕ, Bool, true, not, nat_le, List, [], ◌∷◌, ◌++◌, Some, codes}
use Rattle.std.specs.Prelude.{length, map}
use Rattle.std.specs.List.{list_all, range_with_len, AllByRecursion}
use Rattle.ps_bench_waves.specs.declared.wire.Wire.{Wire}
use Rattle.ps_bench_waves.specs.declared.wire.Shape.{Shape}
use Rattle.ps_bench_waves.specs.declared.wire.Shape.TheVariants.{Bit, Code, Count, Words}
use Rattle.ps_bench_waves.specs.Values.{Held}
use Rattle.ps_bench_waves.specs.Values.Held.{bit, vector, words}
use Rattle.ps_bench_waves.specs.Identifiers.{identifier}
use Rattle.ps_bench_waves.specs.Text.{Moment}
use Rattle.ps_bench_waves.specs.Reading.{Seen}

-- a character prints, and is no blank
abbrev pub is_printable : ℕ → Bool
is_printable b = nat_le 33 b && nat_le b 126

-- the identifiers of so many wires
abbrev pub identifiers : (wires : ℕ) → List (List ℕ)
identifiers wires = map identifier (range_with_len 0 wires)

-- words have printable characters and blanks, and no backslash
abbrev pub is_plain : ℕ → Bool
is_plain b = nat_le 32 b && nat_le b 126 && not (b == 92)

-- a number fits its bits, and words are plain
abbrev pub HasPlace : Held → Type 0
HasPlace (bit value) = Unit {0}
HasPlace (vector width number) = number < 2 ^ width
HasPlace (words bytes) = list_all is_plain bytes ≡ true

-- a scan that can be read back: its time has 32 bits, each wire has a value, and each value its place
pub record IsReadable (wires : ℕ) (m : Moment) : Type 0 where
  pub time : m.now < 2 ^ 32
  pub wires_are : length m.values ≡ wires
  pub places : AllByRecursion HasPlace m.values

-- a scan as a reader sees it
abbrev pub seen : Moment → Seen
seen m = record { now = m.now; values = map Some m.values }

-- ---- Declarations.

-- the words for the type of a wire, for the number of its bits, and for their numbers, where there are several
abbrev pub type_word : Shape → List ℕ
type_word Bit = codes "wire"
type_word Code = codes "wire"
type_word Count = codes "wire"
type_word Words = codes "string"

-- how many bits a variable has, as it is declared
abbrev pub size_word : Shape → List ℕ
size_word Bit = codes "1"
size_word Code = codes "16"
size_word Count = codes "64"
size_word Words = codes "1"

-- the range of a variable's bits, if it has more than one
abbrev pub range_words : Shape → List (List ℕ)
range_words Bit = []
range_words Code = codes "[15:0]" ∷ []
range_words Count = codes "[63:0]" ∷ []
range_words Words = []

-- the tokens by which IEEE 1364 declares a wire with a number
abbrev pub wire_tokens : (number : ℕ) → Wire → List (List ℕ)
wire_tokens number wire =
    codes "$var" ∷ type_word wire.shape ∷ size_word wire.shape ∷ identifier number ∷ wire.name
    ∷ (range_words wire.shape ++ codes "$end" ∷ [])
