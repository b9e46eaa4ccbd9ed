use Rattle.std.proofs.Common.{◌≡◌, ◌++◌}
use Rattle.std.specs.List.{flat_map, range_with_len}
use Rattle.ps_bench_trials.specs.Telling.{column_text}
use Rattle.ps_bench_trials.proofs.telling.add_columns.Given as goal

abbrev pub invariant-loop-column : goal.invariant-loop-column
invariant-loop-column l = l.text ≡ l.fn.text ++ flat_map (column_text l.table) (range_with_len 0 l.column)
