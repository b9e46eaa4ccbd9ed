use Rattle.std.proofs.Common.{true, sym, ◌∙◌, ap, subst}
use Rattle.std.specs.Prelude.{◌&&◌, not, if◌then◌else◌}
use mir.Val.{bool_byte}
use Rattle.ps_model.specs.declared.kind.Kind.TheVariants.{GuardMonitoring}
use Rattle.ps_block.specs.Seeing.{with_reset}
use Rattle.ps_block.specs.Shown.{Shows, shown_in}
use Rattle.ps_guards.specs.declared.guard_monitoring.GuardMonitoringState.{GuardMonitoringState}
use Rattle.ps_guards.specs.GuardMonitoringStates.{kept_of}
use Rattle.ps_guards.proofs.GuardMonitoringSteps.{guard_monitoring_shows, guard_monitoring_moves}
use Rattle.ps_guards.proofs.guard_monitoring.GuardMonitoringSafetyBlock.step.Goals as goal
use Rattle.ps_guards.proofs.guard_monitoring.GuardMonitoringSafetyBlock.step.Goals.{then-ne, else-ne}

pub returns-clause-shows : goal.returns-clause-shows
returns-clause-shows c =
    let s : GuardMonitoringState = record { phase = c.next-phase.result; since = c.if-ne.state.since; last_reset = c.pin-state.result } in
    subst (λ o. Shows GuardMonitoring o (kept_of s)) (sym (c.of.ensures ∙ (λ i. shown_in (c.code.ensures.code i) ((c.from.ensures ∙ ap bool_byte c.eq.ensures) i)))) (guard_monitoring_shows s)

pub returns-clause-moves : goal.returns-clause-moves
returns-clause-moves c =
    let old = c.args.state.now in
    let now = c.args.pins.now in
    let s : GuardMonitoringState = record { phase = c.next-phase.result; since = c.if-ne.state.since; last_reset = c.pin-state.result } in
    guard_monitoring_moves old c.args.pins.bits c.args.pins.limit now c.with_reset-seen.result s
    (c.with_reset-seen.ensures ∙ ap (λ x. with_reset x 5 old.last_reset) c.at.ensures) c.next-phase.ensures c.pin-state.ensures
    (elim c.if-ne.branch [
      | then-ne w ↦ ap (λ x. x.since) w.state-is ∙ ap (λ x. if not x && true then old.since else now) (sym w.if-ne.true ∙ c.ne.ensures)
      | else-ne w ↦ ap (λ x. x.since) w.state-is ∙ ap (λ x. if not x && true then old.since else now) (sym w.if-ne.false ∙ c.ne.ensures)
    ])
