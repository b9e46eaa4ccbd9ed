use Rattle.std.proofs.Common.{◌≡◌, ◌∷◌, take}
use Rattle.std.specs.List.{flat_map}
use Rattle.ps_bench_waves.specs.Parts.{parts_of_name}
use Rattle.ps_bench_waves.specs.declared.parts.Part.TheVariants.{Restart, Trip, Scan}
use Rattle.ps_bench_waves.proofs.parts.parts_of.Given as goal

abbrev pub invariant-loop-name : goal.invariant-loop-name
invariant-loop-name l = l.parts.items ≡ Restart ∷ Trip ∷ Scan ∷ flat_map parts_of_name (take l.name-index l.names)
