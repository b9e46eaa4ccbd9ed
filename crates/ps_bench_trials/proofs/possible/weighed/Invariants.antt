use Rattle.std.proofs.Common.{◌≡◌, ◌*◌, min}
use Rattle.std.specs.Prelude.{slice_index}
use Rattle.ps_outside.specs.Outside.{last_count}
use Rattle.ps_bench_trials.specs.Possible.{total, weight_of}
use Rattle.ps_bench_trials.proofs.possible.weighed.Given as goal

abbrev pub invariant-loop-column : goal.invariant-loop-column
invariant-loop-column l = l.sum ≡ min (total (λ c. slice_index l.table c * weight_of l.weight c) l.column) last_count
