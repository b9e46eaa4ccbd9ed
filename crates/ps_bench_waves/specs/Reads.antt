-- How the values of wires are come by.
use Rattle.std.specs.Prelude.{◌≡◌, List, length, map}
use Rattle.ps_bench_waves.specs.Values.{Held}
use Rattle.ps_bench_waves.specs.Values.Held.{bit}
use Rattle.ps_bench_waves.specs.declared.count.Count.{Count}
use Rattle.ps_model.specs.Network.{Network}
use Rattle.ps_bench_judge.specs.Moments.{Moment}
use Rattle.ps_bench_waves.specs.Parts.{part_held}
use Rattle.ps_bench_waves.specs.declared.parts.Part.{Part}
use Rattle.ps_bench_waves.specs.declared.reads.Read.{Read}
use Rattle.ps_bench_waves.specs.declared.reads.Read.TheVariants.{Still, Asked}

-- what a wire has in a scan whose value is come by so
abbrev pub read_held : Network → Count → Moment → Read → Held
read_held net count m (Still value) = bit value
read_held net count m (Asked part) = part_held net count m part

-- By these ways of coming by values, wires have what these parts have, in every scan.
pub record AreReadsOf (net : Network) (reads : List Read) (parts : List Part) : Type 0 where
  pub sized : length reads ≡ length parts
  pub same : (count : Count) (m : Moment) → map (read_held net count m) reads ≡ map (part_held net count m) parts
