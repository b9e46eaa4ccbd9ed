use Rattle.std.proofs.Common.{sym, ◌∙◌, subst}
use Rattle.ps_model.specs.declared.kind.Kind.TheVariants.{ModeSelector}
use Rattle.ps_block.specs.Shown.{Shows, shown_in}
use Rattle.ps_operator.specs.declared.mode_selector.ModeSelectorState.{ModeSelectorState}
use Rattle.ps_operator.specs.ModeSelectorStates.{kept_of}
use Rattle.ps_operator.proofs.Modes.{mode_shows}
use Rattle.ps_operator.proofs.mode_selector.ModeSelectorSafetyBlock.step.Goals as goal

pub returns-clause-shows : goal.returns-clause-shows
returns-clause-shows c =
    let s : ModeSelectorState = record { phase = c.next-phase.result; since = c.if-code.state.since; last_reset = c.pin-state.result; last_set_mode = c.pin-state-2.result } in
    subst (λ o. Shows ModeSelector o (kept_of s)) (sym (c.of.ensures ∙ (λ i. shown_in (c.code-3.ensures i) (c.safe.ensures i)))) (mode_shows s)
