use Rattle.std.proofs.Common.{◌≡◌, sym, ap, ◌∙◌, None, Some, slice_get, subst, arith}
use Rattle.std.proofs.lemmas.Option.{slice_get_past}
use Rattle.ps_model.specs.Action.{calls}
use Rattle.ps_model.specs.Scanning.{limit_of, pins_under}
use Rattle.ps_model.specs.Steps.{action}
use Rattle.ps_model.specs.Stored.{IsKept}
use Rattle.ps_rows.specs.Counted.{kept_of}
use Rattle.ps_ways.specs.Moving.{moved_by}
use Rattle.ps_cover.specs.Blocks.{moved_in}
use Rattle.ps_cover.specs.Covering.{IsCallKept}
use Rattle.ps_machine.specs.Reading.{read_in}
use Rattle.ps_cover.specs.declared.block.Called.{Called}
use Rattle.ps_ways.specs.declared.moving.Moved.{Moved}
use Rattle.ps_cover.proofs.block.Called.scanned.Goals as goal

pub returns-in-Call-clause-scans : goal.returns-in-Call-clause-scans
returns-in-Call-clause-scans c =
    let net = c.args.app.now in
    let me = c.args.self in
    let v = read_in net c.args.signals.now me.step in
    let i = c.in-Call.instance in
    let args = c.in-Call.args in
    let b = me.moved.block in
    let at : slice_get net.steps me.step ≡ Some (calls i args) = c.step.ensures ∙ ap (λ s. Some (action s)) c.in-Call.is in
    ap (λ (m : Moved). let new : Called = record { step = me.step; moved = m } in new)
    (c.moved_by.ensures.moves
    ∙ (λ t. moved_by c.instance_kind-kind.result (c.call_limit.ensures t) (λ j. c.read_pins-bits.ensures j t) c.args.passed b)
    ∙ ap (λ kind. moved_by kind (limit_of kind args) (pins_under v kind args) c.args.passed b) c.instance_kind-kind.ensures
    ∙ ap (moved_in net c.args.signals.now c.args.passed me) (sym at))

pub returns-in-Call-clause-kept : goal.returns-in-Call-clause-kept
returns-in-Call-clause-kept c =
    let net = c.args.app.now in
    let me = c.args.self in
    let at : slice_get net.steps me.step ≡ Some (calls c.in-Call.instance c.in-Call.args) = c.step.ensures ∙ ap (λ s. Some (action s)) c.in-Call.is in
    subst (λ a. IsCallKept net a (record { step = me.step; moved = c.moved_by.result })) (sym at)
    (subst (λ kind. IsKept kind (kept_of c.moved_by.result.block)) c.instance_kind-kind.ensures c.moved_by.ensures.kept)

pub moved_by-requires : goal.moved_by-requires
moved_by-requires c =
    let net = c.args.app.now in
    let me = c.args.self in
    let at : slice_get net.steps me.step ≡ Some (calls c.in-Call.instance c.in-Call.args) = c.step.ensures ∙ ap (λ s. Some (action s)) c.in-Call.is in
    subst (λ kind. IsKept kind (kept_of me.moved.block)) (sym c.instance_kind-kind.ensures) (subst (λ a. IsCallKept net a me) at c.requires)

pub returns-in-Assign-clause-scans : goal.returns-in-Assign-clause-scans
returns-in-Assign-clause-scans c =
    let net = c.args.app.now in
    let me = c.args.self in
    ap (λ (m : Moved). let new : Called = record { step = me.step; moved = m } in new)
    (sym (ap (moved_in net c.args.signals.now c.args.passed me) (c.step.ensures ∙ ap (λ s. Some (action s)) c.in-Assign.is)))

pub returns-in-Assign-clause-kept : goal.returns-in-Assign-clause-kept
returns-in-Assign-clause-kept c = c.requires

pub returns-then-self-step_count-clause-scans : goal.returns-then-self-step_count-clause-scans
returns-then-self-step_count-clause-scans c =
    let net = c.args.app.now in
    let me = c.args.self in
    let past : slice_get net.steps me.step ≡ None = slice_get_past net.steps me.step (omega (arith, c.if-self-step_count.true, c.step_count.ensures)) in
    ap (λ (m : Moved). let new : Called = record { step = me.step; moved = m } in new) (sym (ap (moved_in net c.args.signals.now c.args.passed me) past))

pub returns-then-self-step_count-clause-kept : goal.returns-then-self-step_count-clause-kept
returns-then-self-step_count-clause-kept c = c.requires
