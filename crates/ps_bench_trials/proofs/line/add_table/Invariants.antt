use Rattle.std.proofs.Common.{◌≡◌}
use Rattle.ps_bench_trials.specs.Lines.{more}
use Rattle.ps_bench_trials.proofs.Upto.{upto}
use Rattle.ps_bench_trials.proofs.line.add_table.Given as goal

abbrev pub invariant-loop-column : goal.invariant-loop-column
invariant-loop-column l = l.table ≡ upto more l.column l.fn.table l.other
