use Rattle.std.proofs.Common.{refl, sym, subst}
use Rattle.std.specs.Option.{IfNone}
use Rattle.ps_model.specs.Kept.{Kept}
use Rattle.ps_model.specs.Stored.{Loads}
use Rattle.ps_model.specs.declared.kind.Kind.TheVariants.{ModeSelector}
use Rattle.ps_block.proofs.Loading.{loads_from, no_state}
use Rattle.ps_operator.specs.ModeSelectorStates.{kept_of}
use Rattle.ps_operator.proofs.SameModeSelectorStates.{same_kept}
use Rattle.ps_operator.proofs.mode_selector.ModeSelectorSafetyBlock.load.Goals as goal

pub returns-clause-some : goal.returns-clause-some
returns-clause-some c =
    let i = c.in_ok-image.image in
    let k = kept_of (record { phase = c.in_ok-phase.phase; since = i.time; last_reset = i.last_reset; last_set_mode = i.last_auxiliary }) in
    let r = c.in_ok-image.ensures.some in
    loads_from ModeSelector c.args.from.now i k r c.in_ok-phase.ensures.state c.in_ok-phase.ensures.code refl refl c.in_ok-phase.ensures.mode refl

pub returns-clause-alone : goal.returns-clause-alone
returns-clause-alone c other e = same_kept other _ e

pub returns-in_err-phase-clause-none : goal.returns-in_err-phase-clause-none
returns-in_err-phase-clause-none c =
    subst (λ r. IfNone r ((k : Kept) → ¬ (Loads ModeSelector c.args.from.now k))) (sym c.from_residual-in_err-phase.ensures)
    (no_state ModeSelector c.args.from.now c.in_ok-image.image c.in_ok-image.ensures.some c.in_err-phase.ensures.none)
