use Rattle.ps_bench_trials.specs.Plain.{ArePlain}
use Rattle.ps_bench_trials.proofs.reading.seeming_tally.Given as goal

abbrev pub invariant-loop-place : goal.invariant-loop-place
invariant-loop-place l = ArePlain l.tally
