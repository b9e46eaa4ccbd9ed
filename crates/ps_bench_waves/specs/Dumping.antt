-- What a writer of value changes has, and what it makes of an outcome.
use Rattle.std.specs.Prelude.{◌≡◌, ℕ, true, List, [], length, map}
use Rattle.ps_bench_judge.specs.Moments.{Moment}
use Rattle.ps_model.specs.Network.{Network}
use Rattle.ps_model.specs.declared.channel.Verdict.{Verdict}
use Rattle.ps_runs.specs.Outcomes.{Outcome, performed, refuses, anew}
use Rattle.ps_runs.specs.declared.striking.StruckWorld.{StruckWorld}
use Rattle.ps_runs.specs.declared.watching.Watched.{Watched}
use Rattle.ps_bench_waves.specs.DumpWriter.{has_begun, last_of, wire_count}
use Rattle.ps_bench_waves.specs.Text.{scan_text}
use Rattle.ps_bench_waves.specs.Values.{Held, held}
use Rattle.ps_bench_waves.specs.Watcher.{seen_behind}
use Rattle.ps_bench_waves.specs.Parts.{part_held}
use Rattle.ps_bench_waves.specs.Reads.{AreReadsOf}
use Rattle.ps_bench_waves.specs.declared.dumper.Dumper.{Dumper}
use Rattle.ps_bench_waves.specs.Counts.{anew_count, next_count}
use Rattle.ps_bench_waves.specs.declared.count.Count.{Count}
use Rattle.ps_bench_waves.specs.declared.parts.Part.{Part}

-- it has a wire for each part, and the value of each is come by
pub record IsDumperFor (net : Network) (d : Dumper) : Type 0 where
  pub values : length d.values.items ≡ length d.parts.items
  pub wires : wire_count d.dump ≡ length d.parts.items
  pub reads : AreReadsOf net d.reads.items d.parts.items

-- what the wires have in a scan
abbrev pub wires_held : Network → List Part → Count → Moment → List Held
wires_held net parts count m = map (part_held net count m) parts

-- what it writes of an outcome
abbrev pub dumper_said : Network → Dumper → Watched StruckWorld → Outcome Verdict → List ℕ
dumper_said net d p (performed now verdict report) =
    scan_text (has_begun d.dump) (last_of d.dump) now
    (wires_held net d.parts.items d.next (seen_behind p now verdict report))
dumper_said net d p (refuses refusal) = []
dumper_said net d p anew = []

-- What the wires have in a scan was taken, to be written.
pub record TakesValues (net : Network) (d : Dumper) (m : Moment) (d' : Dumper) : Type 0 where
  pub parts : d'.parts.items ≡ d.parts.items
  pub values : map held d'.values.items ≡ wires_held net d.parts.items d.next m
  pub dump : d'.dump ≡ d.dump
  pub next : d'.next ≡ next_count d.next

-- A scan was taken.
pub record TakesScan (net : Network) (d : Dumper) (m : Moment) (d' : Dumper) : Type 0 where
  pub parts : d'.parts.items ≡ d.parts.items
  pub begun : has_begun d'.dump ≡ true
  pub last : last_of d'.dump ≡ wires_held net d.parts.items d.next m
  pub next : d'.next ≡ next_count d.next

-- A restart was taken.
pub record TakesRestart (d d' : Dumper) : Type 0 where
  pub parts : d'.parts.items ≡ d.parts.items
  pub begun : has_begun d'.dump ≡ has_begun d.dump
  pub last : last_of d'.dump ≡ last_of d.dump
  pub next : d'.next ≡ anew_count d.next

-- what it becomes by an outcome
abbrev pub dumper_takes : Network → Dumper → Watched StruckWorld → Outcome Verdict → Dumper → Type 0
dumper_takes net d p (performed now verdict report) d' = TakesScan net d (seen_behind p now verdict report) d'
dumper_takes net d p (refuses refusal) d' = ⊥
dumper_takes net d p anew d' = TakesRestart d d'
