use Rattle.std.proofs.Common.{◌≡◌}
use Rattle.ps_bench_trials.specs.Lines.{added_line}
use Rattle.ps_bench_trials.proofs.Upto.{upto}
use Rattle.ps_bench_trials.proofs.tally.add_lines.Given as goal

abbrev pub invariant-loop-place : goal.invariant-loop-place
invariant-loop-place l = l.lines ≡ upto added_line l.place l.fn.lines l.others
