use Rattle.std.proofs.Common.{◌∙◌, ap, sym}
use Rattle.std.proofs.Math.ListN.{set}
use Rattle.std.proofs.lemmas.List.Edits.{map_over_more}
use Rattle.ps_bench_judge.specs.Moments.{moment_of}
use Rattle.ps_bench_waves.specs.Room.{renewed}
use Rattle.ps_bench_waves.specs.declared.column.Column.{Column}
use Rattle.ps_bench_waves.proofs.column.renew.Goals as goal

pub loop-column-preserved : goal.loop-column-preserved
loop-column-preserved c =
    let f = renewed c.args.app.now c.args.is_first (moment_of c.args.seen.now) in
    ap (λ (y : Column). set c.loop-column.columns c.loop-column.column-index y)
    (c.renew_one.ensures ∙ ap f (sym c.column-item.is))
    ∙ map_over_more f c.args.columns.now c.loop-column.columns c.loop-column.column-index c.column-item.result
    c.loop-column-test.true c.loop-column.invariant c.column-item.is
