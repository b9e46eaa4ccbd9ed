use Rattle.std.proofs.Common.{arith, ap, ◌∙◌, ◌||◌}
use Rattle.std.specs.Prelude.{slice_index_or, false}
use Rattle.ps_cover.specs.Covering.{shows_in}
use Rattle.ps_cover.proofs.Looking.{look_at}
use Rattle.ps_cover.proofs.point.look.Goals as goal

pub loop-n-preserved : goal.loop-n-preserved
loop-n-preserved c =
    let shows = shows_in c.args.app.now c.args.signals.now c.args.calls.now c.args.value in
    look_at shows c.args.points.now c.args.seen.now c.loop-n.seen c.loop-n.n c.loop-n.invariant c.sees.result c.index-points-n.result
    (omega (arith, c.loop-n-test.true, c.loop-n.auto.seen, c.requires))
    (c.sees.ensures ∙ ap (λ p. slice_index_or c.loop-n.seen c.loop-n.n false || shows p) c.index-points-n.is)
