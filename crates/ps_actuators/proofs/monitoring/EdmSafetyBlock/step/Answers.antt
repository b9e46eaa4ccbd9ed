use Rattle.std.proofs.Common.{◌≡◌, sym, ◌∙◌, ap, subst}
use Rattle.std.specs.Prelude.{◌&&◌, not, if◌then◌else◌}
use denote.Enum.Bare.{sameb}
use Rattle.ps_model.specs.PinBits.{pin_of}
use Rattle.ps_actuators.specs.contracts.monitoring.Phase.{the_type}
use Rattle.ps_actuators.specs.declared.monitoring.Phase.TheVariants.{OutputDisabled}
use mir.Val.{bool_byte}
use Rattle.ps_model.specs.declared.kind.Kind.TheVariants.{Edm}
use Rattle.ps_block.specs.Seeing.{with_reset}
use Rattle.ps_block.specs.Shown.{Shows, shown_in}
use Rattle.ps_actuators.specs.declared.monitoring.EdmState.{EdmState}
use Rattle.ps_actuators.specs.EdmStates.{kept_of}
use Rattle.ps_actuators.proofs.EdmSteps.{edm_shows, edm_moves}
use Rattle.ps_actuators.proofs.monitoring.EdmSafetyBlock.step.Goals as goal
use Rattle.ps_actuators.proofs.monitoring.EdmSafetyBlock.step.Goals.{then-ne, then-ne-via-then-ne, then-ne-via-else-ne+then-pin-2, then-eq, else-eq, then-pin, else-pin, else-ne+else-pin-2}

pub returns-clause-shows : goal.returns-clause-shows
returns-clause-shows c =
    let s : EdmState = record { phase = c.next-phase.result; since = c.if-ne.state.since; last_reset = c.pin-state.result } in
    subst (λ o. Shows Edm o (kept_of s)) (sym (c.of.ensures ∙ (λ i. shown_in (c.code.ensures.code i) ((c.from.ensures ∙ ap bool_byte c.eq-2.ensures) i)))) (edm_shows s)

pub returns-clause-moves : goal.returns-clause-moves
returns-clause-moves c =
    let old = c.args.state.now in
    let now = c.args.pins.now in
    let bits = c.with_reset-seen.result.bits in
    let disabled = sameb the_type c.next-phase.result OutputDisabled in
    let again = disabled && pin_of bits 2 && pin_of bits 3 in
    let s : EdmState = record { phase = c.next-phase.result; since = c.if-ne.state.since; last_reset = c.pin-state.result } in
    edm_moves old c.args.pins.bits c.args.pins.limit now c.with_reset-seen.result s
    (c.with_reset-seen.ensures ∙ ap (λ x. with_reset x 5 old.last_reset) c.at.ensures) c.next-phase.ensures c.pin-state.ensures
    (elim c.if-ne.branch [
      | then-ne w ↦ elim w.then-ne.branch [
        | then-ne-via-then-ne w' ↦ ap (λ x. x.since) w.state-is ∙ ap (λ x. if not x && not again then old.since else now) (sym w'.if-ne.true ∙ c.ne.ensures)
        | then-ne-via-else-ne+then-pin-2 w' ↦
            let off : w'.if-eq.value ≡ (disabled && pin_of bits 2) = elim w'.if-eq.branch [
              | then-eq w'' ↦ w''.value-is ∙ w''.pin.ensures ∙ ap (λ x. x && pin_of bits 2) (sym w''.if-eq.true ∙ w'.eq.ensures)
              | else-eq w'' ↦ w''.value-is ∙ w''.if-eq.false ∙ ap (λ x. x && pin_of bits 2) (sym w''.if-eq.false ∙ w'.eq.ensures)
            ] in
            let restarts : w'.if-pin.value ≡ again = elim w'.if-pin.branch [
              | then-pin w'' ↦ w''.value-is ∙ w''.pin-then-pin.ensures ∙ ap (λ x. x && pin_of bits 3) (sym w''.if-pin.true ∙ off)
              | else-pin w'' ↦ w''.value-is ∙ w''.if-pin.false ∙ ap (λ x. x && pin_of bits 3) (sym w''.if-pin.false ∙ off)
            ] in
            ap (λ x. x.since) w.state-is ∙ (λ i. if not ((sym w'.if-ne.false ∙ c.ne.ensures) i) && not ((sym w'.if-pin-2.true ∙ restarts) i) then old.since else now)
      ]
      | else-ne+else-pin-2 w ↦
          let off : w.if-eq.value ≡ (disabled && pin_of bits 2) = elim w.if-eq.branch [
            | then-eq w' ↦ w'.value-is ∙ w'.pin.ensures ∙ ap (λ x. x && pin_of bits 2) (sym w'.if-eq.true ∙ w.eq.ensures)
            | else-eq w' ↦ w'.value-is ∙ w'.if-eq.false ∙ ap (λ x. x && pin_of bits 2) (sym w'.if-eq.false ∙ w.eq.ensures)
          ] in
          let restarts : w.if-pin.value ≡ again = elim w.if-pin.branch [
            | then-pin w' ↦ w'.value-is ∙ w'.pin-then-pin.ensures ∙ ap (λ x. x && pin_of bits 3) (sym w'.if-pin.true ∙ off)
            | else-pin w' ↦ w'.value-is ∙ w'.if-pin.false ∙ ap (λ x. x && pin_of bits 3) (sym w'.if-pin.false ∙ off)
          ] in
          ap (λ x. x.since) w.state-is ∙ (λ i. if not ((sym w.if-ne.false ∙ c.ne.ensures) i) && not ((sym w.if-pin-2.false ∙ restarts) i) then old.since else now)
    ])
