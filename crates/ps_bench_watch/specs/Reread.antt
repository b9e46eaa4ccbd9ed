-- What a reader of a run's value changes is to see of its scans.
use Rattle.std.specs.Prelude.{◌<◌, ◌^◌, ℕ, List, [], ◌∷◌}
use Rattle.ps_bench_names.specs.declared.name.Name.{Name}
use Rattle.ps_bench_names.specs.declared.name.Name.TheVariants as names
use Rattle.ps_bench_judge.specs.Moments.{Moment}
use Rattle.ps_bench_judge.specs.Named.{value_in}
use Rattle.ps_model.specs.Meaning.{Item}
use Rattle.ps_model.specs.Meaning.Item.{scan, restart}
use Rattle.ps_model.specs.Network.{Network}
use Rattle.ps_bench_waves.specs.Text as vcd
use Rattle.ps_bench_waves.specs.Counts.{anew_count, next_count}
use Rattle.ps_bench_waves.specs.Dumping.{wires_held}
use Rattle.ps_bench_waves.specs.Parts.{parts_of}
use Rattle.ps_bench_waves.specs.declared.count.Count.{Count}

-- a scan with its time, and what each of its wires has in it
abbrev pub scan_held : Network → List Name → Count → Moment → vcd.Moment
scan_held net names count m = record { now = m.now; values = wires_held net (parts_of names) count m }

-- the scans among items, of which this is seen: each has its number, and whether a restart stood before it
abbrev pub scans_held : Network → List Name → Count → List Item → List Moment → List vcd.Moment
scans_held net names count [] ms = []
scans_held net names count (restart ∷ items) ms = scans_held net names (anew_count count) items ms
scans_held net names count (scan now ins ∷ items) [] = []
scans_held net names count (scan now ins ∷ items) (m ∷ ms) =
    scan_held net names count m ∷ scans_held net names (next_count count) items ms

-- the time of a scan has 32 bits, and its DiagCodes have 16
pub record IsInBits (net : Network) (m : Moment) : Type 0 where
  pub time : m.now < 2 ^ 32
  pub codes : (i : ℕ) → value_in net m (names.Code i) < 2 ^ 16
