use Rattle.std.proofs.Common.{refl, sym, subst, rules}
use Rattle.std.specs.Option.{IfNone}
use Rattle.ps_model.specs.Blocks.{block}
use Rattle.ps_model.specs.Kept.{Kept}
use Rattle.ps_model.specs.Stored.{Loads}
use Rattle.ps_model.specs.declared.kind.Kind.TheVariants.{TwoHandThree}
use Rattle.ps_block.proofs.Loading.{loads_from, no_state, not_last}
use Rattle.ps_operator.specs.TwoHandThreeStates.{kept_of}
use Rattle.ps_operator.proofs.SameTwoHandThreeStates.{same_kept}
use Rattle.ps_operator.proofs.two_hand_three.TwoHandThreeSafetyBlock.load.Goals as goal

pub returns-clause-some : goal.returns-clause-some
unfolding block
returns-clause-some c =
    let i = c.in_ok-image.image in
    let k = kept_of (record { phase = c.in_ok-phase.phase; since = i.time }) in
    let r = c.in_ok-image.ensures.some in
    loads_from TwoHandThree c.args.from.now i k r c.in_ok-phase.ensures.state c.in_ok-phase.ensures.some (not_last i.last_reset r.last_reset) (not_last i.last_auxiliary r.last_auxiliary) (search rules) refl

pub returns-clause-alone : goal.returns-clause-alone
returns-clause-alone c other e = same_kept other _ e

pub returns-in_err-phase-clause-none : goal.returns-in_err-phase-clause-none
returns-in_err-phase-clause-none c =
    subst (λ r. IfNone r ((k : Kept) → ¬ (Loads TwoHandThree c.args.from.now k))) (sym c.from_residual-in_err-phase.ensures)
    (no_state TwoHandThree c.args.from.now c.in_ok-image.image c.in_ok-image.ensures.some c.in_err-phase.ensures.none)
