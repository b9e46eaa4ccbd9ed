use Rattle.std.proofs.Common.{◌∙◌, sym, arith}
use Rattle.ps_cut.specs.declared.part.Origin.TheVariants.{Now}
use Rattle.ps_cut.proofs.Fillings.{filled_past, filled_more}
use Rattle.ps_cut.proofs.filling.filled.Goals as goal

pub returns-then-r-values : goal.returns-then-r-values
returns-then-r-values c =
    sym (c.loop-r.invariant ∙ filled_past c.args.origins.now c.args.values.now c.loop-r.r c.args.s c.args.other (omega (arith, c.if-r-values.true)))

pub loop-r-preserved : goal.loop-r-preserved
loop-r-preserved c =
    c.loop-r.invariant ∙ filled_more c.args.origins.now c.args.values.now c.loop-r.r c.args.s c.args.other (Now 0)
    (omega (arith, c.loop-r-test.true)) (omega (arith, c.if-r-values.false)) (sym c.if-is_value_of.ensures)
