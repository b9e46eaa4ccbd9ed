use Rattle.std.proofs.Common.{arith}
use Rattle.ps_bench_trials.specs.Telling.{column_text}
use Rattle.ps_bench_trials.proofs.Growing.{all_told, columns_are, one_more}
use Rattle.ps_bench_trials.proofs.telling.add_columns.Goals as goal

pub loop-column-preserved : goal.loop-column-preserved
loop-column-preserved c =
    one_more (column_text c.args.table.now) c.loop-column.column c.args.text.now c.loop-column.text _
    c.loop-column.invariant c.in_ok-add_column.ensures

pub returns : goal.returns
returns c =
    all_told (column_text c.args.table.now) c.loop-column.column 33 _ c.args.text.now c.loop-column.text (columns_are c.args.table.now)
    (omega (arith, c.loop-column-test.false, c.loop-column.auto.column-end)) c.loop-column.invariant
