use Rattle.std.proofs.Common.{◌≡◌, ◌+◌, ◌*◌, true, sym, ◌∙◌, ap, subst}
use Rattle.std.specs.Prelude.{◌&&◌, ◌||◌, not, if◌then◌else◌}
use denote.Enum.Bare.{sameb}
use mir.Val.{bool_byte}
use Rattle.ps_model.specs.declared.kind.Kind.TheVariants.{GuardLocking}
use Rattle.ps_block.specs.Seeing.{with_reset}
use Rattle.ps_block.specs.Shown.{Shows, shown_in}
use Rattle.ps_guards.specs.contracts.guard_locking.Phase.{the_type}
use Rattle.ps_guards.specs.declared.guard_locking.Phase.TheVariants.{OpenUnlocked, ClosedUnlocked}
use Rattle.ps_guards.specs.declared.guard_locking.GuardLockingState.{GuardLockingState}
use Rattle.ps_guards.specs.GuardLockingStates.{kept_of}
use Rattle.ps_guards.proofs.GuardLockingSteps.{guard_locking_shows, guard_locking_moves}
use Rattle.ps_guards.proofs.guard_locking.GuardLockingSafetyBlock.step.Goals as goal
use Rattle.ps_guards.proofs.guard_locking.GuardLockingSafetyBlock.step.Goals.{then-ne, else-ne, then-eq, else-eq}

pub returns-clause-shows : goal.returns-clause-shows
returns-clause-shows c =
    let s : GuardLockingState = record { phase = c.next-phase.result; since = c.if-ne.state.since; last_reset = c.pin-state.result } in
    let closed = sameb the_type c.next-phase.result ClosedUnlocked in
    let either : c.if-eq.from ≡ (sameb the_type c.next-phase.result OpenUnlocked || closed) = elim c.if-eq.branch [
      | then-eq w ↦ w.from-is ∙ w.if-eq.true ∙ ap (λ x. x || closed) (sym w.if-eq.true ∙ c.eq-2.ensures)
      | else-eq w ↦ w.from-is ∙ w.eq-else-eq.ensures ∙ ap (λ x. x || closed) (sym w.if-eq.false ∙ c.eq-2.ensures)
    ] in
    subst (λ o. Shows GuardLocking o (kept_of s)) (sym (c.of.ensures ∙ (λ i. shown_in (c.code.ensures.code i) ((c.from-locked.ensures ∙ ap bool_byte c.eq.ensures) i + 2 * (c.from-unlock.ensures ∙ ap bool_byte either) i)))) (guard_locking_shows s)

pub returns-clause-moves : goal.returns-clause-moves
returns-clause-moves c =
    let old = c.args.state.now in
    let now = c.args.pins.now in
    let s : GuardLockingState = record { phase = c.next-phase.result; since = c.if-ne.state.since; last_reset = c.pin-state.result } in
    guard_locking_moves old c.args.pins.bits c.args.pins.limit now c.with_reset-seen.result s
    (c.with_reset-seen.ensures ∙ ap (λ x. with_reset x 7 old.last_reset) c.at.ensures) c.next-phase.ensures c.pin-state.ensures
    (elim c.if-ne.branch [
      | then-ne w ↦ ap (λ x. x.since) w.state-is ∙ ap (λ x. if not x && true then old.since else now) (sym w.if-ne.true ∙ c.ne.ensures)
      | else-ne w ↦ ap (λ x. x.since) w.state-is ∙ ap (λ x. if not x && true then old.since else now) (sym w.if-ne.false ∙ c.ne.ensures)
    ])
