use Rattle.std.proofs.Common.{true, sym, ◌∙◌, ap, subst}
use Rattle.std.specs.Prelude.{◌&&◌, not, if◌then◌else◌}
use mir.Val.{bool_byte}
use Rattle.ps_model.specs.declared.kind.Kind.TheVariants.{OutControl}
use Rattle.ps_block.specs.Seeing.{with_reset, with_auxiliary}
use Rattle.ps_block.specs.Shown.{Shows, shown_in}
use Rattle.ps_actuators.specs.declared.out_control.OutControlState.{OutControlState}
use Rattle.ps_actuators.specs.OutControlStates.{kept_of}
use Rattle.ps_actuators.proofs.OutControlSteps.{out_control_shows, out_control_moves}
use Rattle.ps_actuators.proofs.out_control.OutControlSafetyBlock.step.Goals as goal
use Rattle.ps_actuators.proofs.out_control.OutControlSafetyBlock.step.Goals.{then-ne, else-ne}

pub returns-clause-shows : goal.returns-clause-shows
returns-clause-shows c =
    let s : OutControlState = record { phase = c.next-phase.result; since = c.if-ne.state.since; last_reset = c.pin-state.result; last_process = c.pin-state-2.result } in
    subst (λ o. Shows OutControl o (kept_of s)) (sym (c.of.ensures ∙ (λ i. shown_in (c.code.ensures.code i) ((c.from.ensures ∙ ap bool_byte c.eq.ensures) i)))) (out_control_shows s)

pub returns-clause-moves : goal.returns-clause-moves
returns-clause-moves c =
    let old = c.args.state.now in
    let now = c.args.pins.now in
    let s : OutControlState = record { phase = c.next-phase.result; since = c.if-ne.state.since; last_reset = c.pin-state.result; last_process = c.pin-state-2.result } in
    out_control_moves old c.args.pins.bits c.args.pins.limit now c.with_auxiliary-seen.result s
    (c.with_auxiliary-seen.ensures ∙ ap (λ x. with_auxiliary x 2 old.last_process) (c.with_reset.ensures ∙ ap (λ x. with_reset x 6 old.last_reset) c.at.ensures)) c.next-phase.ensures c.pin-state.ensures c.pin-state-2.ensures
    (elim c.if-ne.branch [
      | then-ne w ↦ ap (λ x. x.since) w.state-is ∙ ap (λ x. if not x && true then old.since else now) (sym w.if-ne.true ∙ c.ne.ensures)
      | else-ne w ↦ ap (λ x. x.since) w.state-is ∙ ap (λ x. if not x && true then old.since else now) (sym w.if-ne.false ∙ c.ne.ensures)
    ])
