use Rattle.std.proofs.Common.{refl, sym, subst, rules}
use Rattle.std.specs.Option.{IfNone}
use Rattle.ps_model.specs.Blocks.{block}
use Rattle.ps_model.specs.Kept.{Kept}
use Rattle.ps_model.specs.Stored.{Loads}
use Rattle.ps_model.specs.declared.kind.Kind.TheVariants.{GuardLocking}
use Rattle.ps_block.proofs.Loading.{loads_from, no_state, not_last}
use Rattle.ps_guards.specs.GuardLockingStates.{kept_of}
use Rattle.ps_guards.proofs.SameGuardLockingStates.{same_kept}
use Rattle.ps_guards.proofs.guard_locking.GuardLockingSafetyBlock.load.Goals as goal

pub returns-clause-some : goal.returns-clause-some
unfolding block
returns-clause-some c =
    let i = c.in_ok-image.image in
    let reads = c.in_ok-image.ensures.some in
    loads_from GuardLocking c.args.from.now i (kept_of (record { phase = c.in_ok-phase.phase; since = i.time; last_reset = i.last_reset }))
    reads c.in_ok-phase.ensures.state c.in_ok-phase.ensures.some refl (not_last i.last_auxiliary reads.last_auxiliary) (search (rules, reads.mode)) refl

pub returns-clause-alone : goal.returns-clause-alone
returns-clause-alone c = λ other same. same_kept other _ same

pub returns-in_err-phase-clause-none : goal.returns-in_err-phase-clause-none
returns-in_err-phase-clause-none c =
    subst (λ r. IfNone r ((k : Kept) → ¬ (Loads GuardLocking c.args.from.now k))) (sym c.from_residual-in_err-phase.ensures)
    (no_state GuardLocking c.args.from.now c.in_ok-image.image c.in_ok-image.ensures.some c.in_err-phase.ensures.none)
