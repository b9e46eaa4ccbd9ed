use Rattle.std.proofs.Common.{◌≡◌, drop}
use Rattle.ps_bench_trials.specs.Steps.{items_in}
use Rattle.ps_bench_trials.specs.Times.{time_in}
use Rattle.ps_bench_trials.proofs.times.time_in.Given as goal

abbrev pub invariant-loop-step : goal.invariant-loop-step
invariant-loop-step l = time_in l.left (items_in (drop l.step-index l.steps)) ≡ time_in l.fn.number (items_in l.steps)
