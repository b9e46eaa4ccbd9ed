use Rattle.std.proofs.Common.{sym, subst}
use Rattle.ps_bench_trials.specs.Plain.{ArePlain}
use Rattle.ps_bench_trials.proofs.Plain.{none_plain}
use Rattle.ps_bench_trials.proofs.reading.seeming_tally.Goals as goal

pub loop-place-init : goal.loop-place-init
loop-place-init c = subst ArePlain (sym c.in_ok-tally.ensures) none_plain

pub loop-place-preserved : goal.loop-place-preserved
loop-place-preserved c = c.put_line-rest.ensures c.loop-place.invariant
