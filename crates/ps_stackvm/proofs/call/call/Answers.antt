use Rattle.std.proofs.Common.{List, ℕ, Option, sym, ap, ◌∙◌}
use Rattle.std.specs.Prelude.{nat_le}
use Rattle.std.proofs.lemmas.Bool.{cond-false, lt-leb}
use Rattle.ps_model.specs.declared.kind.Kind.{Kind}
use Rattle.ps_stackvm.specs.declared.trap.Trap.TheVariants.{NoInstance}
use Rattle.ps_stackvm.specs.Cells.{trapped}
use Rattle.ps_stackvm.specs.Calling.{called_by}
use Rattle.ps_machine.specs.Kinds.{kind_of}
use Rattle.ps_stackvm.proofs.call.call.Goals as goal

pub returns-in-Some-clause-cells : goal.returns-in-Some-clause-cells
returns-in-Some-clause-cells c next =
    let cells = c.args.cells.now in
    let site = c.args.site in
    let called : Option Kind → List ℕ = λ o. called_by site.signals site.instance site.first site.limit next o cells in
    c.call_as.ensures.cells next
    ∙ ap called c.in-Some.ensures
    ∙ sym (cond-false (nat_le c.args.instances site.instance) (trapped NoInstance cells) (called (kind_of c.args.kind)) (lt-leb c.args.instances site.instance c.if-site-instances.false))

pub returns-in-None-clause-cells : goal.returns-in-None-clause-cells
returns-in-None-clause-cells c next =
    let cells = c.args.cells.now in
    let site = c.args.site in
    let called : Option Kind → List ℕ = λ o. called_by site.signals site.instance site.first site.limit next o cells in
    cond-false _ _ _ c.refuse-in-None.ensures.step
    ∙ c.refuse-in-None.ensures.cells
    ∙ ap called c.in-None.ensures
    ∙ sym (cond-false (nat_le c.args.instances site.instance) (trapped NoInstance cells) (called (kind_of c.args.kind)) (lt-leb c.args.instances site.instance c.if-site-instances.false))
