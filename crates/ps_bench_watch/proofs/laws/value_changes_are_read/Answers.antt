use Rattle.std.proofs.Common.{◌∙◌, ℕ, List, false, length, replicate, ap, arith}
use Rattle.std.proofs.lemmas.List.{length-replicate}
use Rattle.ps_bench_waves.specs.ReadBack.{identifiers}
use Rattle.ps_bench_waves.specs.Reading.{scans_read}
use Rattle.ps_bench_waves.specs.Values.Held.{bit}
use Rattle.ps_bench_waves.specs.Dumped.{none_dumped}
use Rattle.ps_bench_waves.specs.Parts.{parts_of}
use Rattle.ps_bench_watch.specs.Reread.{scans_held}
use Rattle.ps_bench_watch.proofs.Rereading.{scans_readable, written_is}
use Rattle.ps_bench_watch.proofs.laws.value_changes_are_read.Goals as goal

pub returns : goal.returns
returns c = λ net names items ms bits.
    let wires = length (parts_of names) in
    ap (scans_read (identifiers wires)) (written_is net names (none_dumped wires) items ms)
    ∙ c.read_back.ensures wires (replicate wires (bit false)) (scans_held net names (record { number = 1; is_restarted = false }) items ms)
    (length-replicate wires (bit false))
    (scans_readable net names (record { number = 1; is_restarted = false }) (omega arith) items ms bits)
