use Rattle.std.proofs.Common.{◌+◌, ◌*◌, true, sym, ◌∙◌, ap, subst}
use Rattle.std.specs.Prelude.{◌&&◌, not, if◌then◌else◌}
use mir.Val.{bool_byte}
use Rattle.ps_model.specs.declared.kind.Kind.TheVariants.{SafetyRequest}
use Rattle.ps_block.specs.Seeing.{with_reset}
use Rattle.ps_block.specs.Shown.{Shows, shown_in}
use Rattle.ps_actuators.specs.declared.safety_request.SafetyRequestState.{SafetyRequestState}
use Rattle.ps_actuators.specs.SafetyRequestStates.{kept_of}
use Rattle.ps_actuators.proofs.SafetyRequestSteps.{safety_request_shows, safety_request_moves}
use Rattle.ps_actuators.proofs.safety_request.SafetyRequestSafetyBlock.step.Goals as goal
use Rattle.ps_actuators.proofs.safety_request.SafetyRequestSafetyBlock.step.Goals.{then-ne, else-ne}

pub returns-clause-shows : goal.returns-clause-shows
returns-clause-shows c =
    let s : SafetyRequestState = record { phase = c.next-phase.result; since = c.if-ne.state.since; last_reset = c.pin-state.result } in
    subst (λ o. Shows SafetyRequest o (kept_of s)) (sym (c.of.ensures ∙ (λ i. shown_in (c.code.ensures.code i) ((c.from-active.ensures ∙ ap bool_byte c.eq.ensures) i + 2 * (c.from-request.ensures ∙ ap bool_byte c.eq-2.ensures) i)))) (safety_request_shows s)

pub returns-clause-moves : goal.returns-clause-moves
returns-clause-moves c =
    let old = c.args.state.now in
    let now = c.args.pins.now in
    let s : SafetyRequestState = record { phase = c.next-phase.result; since = c.if-ne.state.since; last_reset = c.pin-state.result } in
    safety_request_moves old c.args.pins.bits c.args.pins.limit now c.with_reset-seen.result s
    (c.with_reset-seen.ensures ∙ ap (λ x. with_reset x 3 old.last_reset) c.at.ensures) c.next-phase.ensures c.pin-state.ensures
    (elim c.if-ne.branch [
      | then-ne w ↦ ap (λ x. x.since) w.state-is ∙ ap (λ x. if not x && true then old.since else now) (sym w.if-ne.true ∙ c.ne.ensures)
      | else-ne w ↦ ap (λ x. x.since) w.state-is ∙ ap (λ x. if not x && true then old.since else now) (sym w.if-ne.false ∙ c.ne.ensures)
    ])
