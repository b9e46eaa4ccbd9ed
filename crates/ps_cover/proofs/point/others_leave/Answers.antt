use Rattle.std.proofs.Common.{◌<◌, ◌∙◌, length, sym, arith}
use Rattle.std.proofs.lemmas.List.{length-map}
use Rattle.ps_cover.proofs.Allowing.{not_all, one_more}
use Rattle.ps_model.specs.Exprs.{formula}
use Rattle.ps_cover.specs.Covering.{leaves_in, operands_in}
use Rattle.ps_cover.proofs.point.others_leave.Goals as goal

pub returns-then-not-leaves : goal.returns-then-not-leaves
returns-then-not-leaves c =
    let d = c.args.decision.now in
    let within : c.loop-j.j < length (operands_in d) =
    omega (arith, c.loop-j-test.true, c.len-j-end.ensures, length-map d.operands.now.items.items formula) in
    sym (not_all (leaves_in c.args.app.now c.args.signals.now d) _ c.loop-j.j within (sym c.leaves.ensures ∙ c.if-not-leaves.true))

pub loop-j-preserved : goal.loop-j-preserved
loop-j-preserved c =
    one_more (leaves_in c.args.app.now c.args.signals.now c.args.decision.now) c.loop-j.j c.loop-j.invariant
    (sym c.leaves.ensures ∙ c.if-not-leaves.false)
