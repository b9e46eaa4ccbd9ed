-- What the wires of a run are called.
use Rattle.std.specs.Prelude.{ℕ, List, Option, Some, None, codes, map}
use Rattle.std.specs.Path.{rsplit_once}
use Rattle.ps_bench_names.specs.declared.name.Name.{Name}
use Rattle.ps_bench_names.specs.declared.name.Name.TheVariants as names
use Rattle.ps_model.specs.Network.{Network}
use Rattle.ps_bench_waves.specs.Declarations.{header_text}
use Rattle.ps_bench_waves.specs.declared.wire.Shape.{Shape}
use Rattle.ps_bench_waves.specs.declared.wire.Shape.TheVariants as shape
use Rattle.ps_bench_waves.specs.declared.wire.Wire.{Wire}
use Rattle.ps_bench_waves.specs.Shown.{label}
use Rattle.ps_bench_waves.specs.Parts.{parts_of}
use Rattle.ps_bench_waves.specs.declared.parts.Part.{Part}
use Rattle.ps_bench_waves.specs.declared.parts.Part.TheVariants.{Restart, Trip, Scan, Bit, Code, State}

-- the character `.`
abbrev pub dot : ℕ
dot = 46

-- a wire of this name in a scope
abbrev pub wire : (scope name : List ℕ) → Shape → Wire
wire scope name shape = record { scope = scope; name = name; shape = shape }

-- the wire of a value whose name is parted at its last dot, if it has one: in the scope of what stands before it, and
-- else in the scope `Program`, which no name of the language is
abbrev pub parted_wire : (name : List ℕ) → Option (List ℕ × List ℕ) → Wire
parted_wire name (Some parts) = wire parts.0 parts.1 shape.Bit
parted_wire name None = wire (codes "Program") name shape.Bit

-- the wire of a value
abbrev pub bit_wire : (name : List ℕ) → Wire
bit_wire name = parted_wire name (rsplit_once dot name)

-- the wire of a part of a run; no name of the language has an `@`
abbrev pub wire_of_part : Network → Part → Wire
wire_of_part net Restart = wire (codes "@run") (codes "Restart") shape.Bit
wire_of_part net Trip = wire (codes "@run") (codes "Trip") shape.Bit
wire_of_part net Scan = wire (codes "@run") (codes "Scan") shape.Count
wire_of_part net (Bit name) = bit_wire (label net name)
wire_of_part net (Code i) = wire (label net (names.Code i)) (codes "DiagCode") shape.Code
wire_of_part net (State i) = wire (label net (names.Code i)) (codes "State") shape.Words

-- the declarations that stand before the value changes of a run
abbrev pub dump_head : Network → List Name → List ℕ
dump_head net names = header_text (map (wire_of_part net) (parts_of names))
