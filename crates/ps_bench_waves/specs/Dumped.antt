-- The value changes of a whole run.
use Rattle.std.specs.Prelude.{ℕ, Bool, true, false, List, [], length, replicate}
use Rattle.ps_bench_names.specs.declared.name.Name.{Name}
use Rattle.ps_bench_judge.specs.Moments.{Moment}
use Rattle.ps_model.specs.Meaning.{Item}
use Rattle.ps_model.specs.Network.{Network}
use Rattle.ps_bench_waves.specs.Text.{scan_text}
use Rattle.ps_bench_waves.specs.Values.{Held}
use Rattle.ps_bench_waves.specs.Values.Held.{bit}
use Rattle.ps_bench_waves.specs.Watching.{written_of}
use Rattle.ps_bench_waves.specs.Counts.{anew_count, first_count, next_count}
use Rattle.ps_bench_waves.specs.Dumping.{wires_held}
use Rattle.ps_bench_waves.specs.Parts.{parts_of}
use Rattle.ps_bench_waves.specs.declared.count.Count.{Count}

-- what was written before a scan: whether there was a scan, and what each wire had in it; and which scan is next
pub record Dumped : Type 0 where
  pub begun : Bool
  pub last : List Held
  pub next : Count

-- nothing was written of so many wires
abbrev pub none_dumped : (wires : ℕ) → Dumped
none_dumped wires = record {
  begun = false;
  last = replicate wires (bit false);
  next = first_count;
}

-- a scan is written by what the wires had and have
abbrev pub dump_told : Network → List Name → Dumped → Moment → List ℕ
dump_told net names b m = scan_text b.begun b.last m.now (wires_held net (parts_of names) b.next m)

-- what was written after a scan
abbrev pub dumped_then : Network → List Name → Dumped → Moment → Dumped
dumped_then net names b m =
    record { begun = true; last = wires_held net (parts_of names) b.next m; next = next_count b.next }

-- nothing is written of a restart: the next scan tells it
abbrev pub dumped_anew : Dumped → Dumped
dumped_anew b = record { begun = b.begun; last = b.last; next = anew_count b.next }

-- the value changes of items, of whose scans this is seen
abbrev pub dump_text : Network → List Name → List Item → List Moment → List ℕ
dump_text net names items ms =
    written_of (dump_told net names) (dumped_then net names) [] dumped_anew (none_dumped (length (parts_of names)))
    items ms
