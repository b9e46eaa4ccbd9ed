use Rattle.std.proofs.Common.{sym, ap, ◌∙◌}
use Rattle.std.proofs.lemmas.Bool.{cond-true, cond-false}
use Rattle.ps_stackvm.specs.Cells.{with_pc}
use Rattle.ps_stackvm.specs.Calling.{after_call}
use Rattle.ps_stackvm.proofs.Heads.{other_pc}
use Rattle.ps_stackvm.proofs.turn.step.Goals as goal

pub returns-then-not-is_stepped-clause-cells : goal.returns-then-not-is_stepped-clause-cells
returns-then-not-is_stepped-clause-cells c =
    let a = c.args in
    c.of-found.ensures.head
    ∙ sym (cond-false _ _ _ c.if-not-is_stepped.true)
    ∙ c.call-is_stepped.ensures.cells a.next
    ∙ ap (after_call a.site.signals a.instances a.site.instance a.kind a.site.first a.site.limit a.next) c.write.ensures

pub returns-clause-cells : goal.returns-clause-cells
returns-clause-cells c =
    let a = c.args in
    let found = c.of-found.result in
    sym (other_pc found.pc found.height a.next c.call-is_stepped.new.cells)
    ∙ ap (with_pc a.next) c.of-found.ensures.head
    ∙ sym (cond-true _ _ _ c.if-not-is_stepped.false)
    ∙ c.call-is_stepped.ensures.cells a.next
    ∙ ap (after_call a.site.signals a.instances a.site.instance a.kind a.site.first a.site.limit a.next) c.write.ensures
