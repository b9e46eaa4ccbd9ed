use Rattle.std.proofs.Common.{◌≡◌, refl, ap, ◌∙◌, arith}
use Rattle.std.proofs.lemmas.Bool.{cond-false}
use Rattle.std.proofs.lemmas.List.{get_or-set_other}
use Rattle.std.specs.Prelude.{slice_index, ◌-◌}
use Rattle.ps_model.specs.Budgets.{boolean_count}
use Rattle.ps_stackvm.specs.Cells.{progress_of}
use Rattle.ps_stackvm.proofs.Calls.{called_none, called_some, progress_stays}
use Rattle.ps_stackvm.proofs.call.step_block.Goals as goal

pub returns-then-not-step_instance-clause-cells : goal.returns-then-not-step_instance-clause-cells
returns-then-not-step_instance-clause-cells g c next =
    let site = c.args.site in
    cond-false _ _ _ c.refuse.ensures.step
    ∙ c.refuse.ensures.cells
    ∙ called_none site.signals site.instance site.first site.limit next g.B.SafetyBlock.KIND c.args.cells.now c.step_instance.new.cells c.place.result c.place.ensures
    (c.step_instance.ensures.kept c.if-not-step_instance.true) (c.step_instance.ensures.none c.if-not-step_instance.true)

pub returns-clause-cells : goal.returns-clause-cells
returns-clause-cells g c next =
    let site = c.args.site in
    called_some site.signals site.instance site.first site.limit next g.B.SafetyBlock.KIND c.args.cells.now c.step_instance.new.cells c.place.result c.place.ensures
    (record { bits = c.args.bits; limit = site.limit; now = c.time.result }) (slice_index c.args.cells.now 4 - c.boolean_count.result) c.requires.end
    (c.step_instance.ensures.stepped c.if-not-step_instance.false)
    (ap (λ n. slice_index c.args.cells.now 4 - n) (c.boolean_count.ensures.count ∙ ap boolean_count c.KIND.ensures)) refl c.time.ensures c.requires.pins

pub returns-clause-runs : goal.returns-clause-runs
returns-clause-runs g c went =
    let site = c.args.site in
    let stays : progress_of c.step_instance.new.cells ≡ progress_of c.args.cells.now =
    progress_stays site.signals site.instance site.first site.limit 0 g.B.SafetyBlock.KIND c.args.cells.now c.step_instance.new.cells c.place.result c.place.ensures
    (record { bits = c.args.bits; limit = site.limit; now = c.time.result }) c.requires.end (omega (arith, c.requires.outs)) (c.step_instance.ensures.stepped c.if-not-step_instance.false) in
    get_or-set_other c.step_instance.new.cells 4 5 _ 0 (λ e. omega (arith, e)) ∙ stays ∙ c.requires.runs
