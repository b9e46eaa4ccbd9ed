use Rattle.std.proofs.Common.{◌+◌, ◌&&◌, ◌||◌, map, drop, refl, sym, ap, ◌∙◌}
use Rattle.ps_model.specs.Formula.{all_true, any_true}
use Rattle.ps_model.specs.Exprs.{formula, operands}
use Rattle.ps_model.proofs.Formulas.{formula-And, formula-Or}
use Rattle.ps_model.proofs.Rest.{rest_at}
use Rattle.ps_machine.specs.Reading.{read_in}
use Rattle.ps_machine.proofs.reading.+read_value.Goals as goal

pub loop-x-init : goal.loop-x-init
loop-x-init t c = rw (c.in-And.is, formula-And, c.deref-x-items.ensures.value) refl

pub loop-x-2-init : goal.loop-x-2-init
loop-x-2-init t c = rw (c.in-Or.is, formula-Or, c.deref-x-items-in-Or.ensures.value) refl

pub loop-x-preserved : goal.loop-x-preserved
loop-x-preserved t c =
    let values = read_in c.args.app.now c.args.signals.now c.args.k in
    let items = c.deref-x-items.result.now in
    let rest = drop (c.loop-x.x-index + 1) items in
    c.loop-x.invariant
    ∙ ap (λ xs. all_true values (operands (map formula xs))) (rest_at items c.loop-x.x-index c.x-item.result c.loop-x-test.true c.x-item.is)
    ∙ ap (λ first. first && all_true values (operands (map formula rest))) (sym c.if-not-read_value.ensures)

pub loop-x-2-preserved : goal.loop-x-2-preserved
loop-x-2-preserved t c =
    let values = read_in c.args.app.now c.args.signals.now c.args.k in
    let items = c.deref-x-items-in-Or.result.now in
    let rest = drop (c.loop-x-2.x-index + 1) items in
    c.loop-x-2.invariant
    ∙ ap (λ xs. any_true values (operands (map formula xs))) (rest_at items c.loop-x-2.x-index c.x-item-in-loop-x-2.result c.loop-x-2-test.true c.x-item-in-loop-x-2.is)
    ∙ ap (λ first. first || any_true values (operands (map formula rest))) (sym c.if-read_value.ensures)
