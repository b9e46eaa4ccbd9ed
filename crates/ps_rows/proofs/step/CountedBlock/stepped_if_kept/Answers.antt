use Rattle.std.proofs.Common.{◌∙◌, sym, arith, rules}
use Rattle.std.proofs.lemmas.Bool.{false≢true, and_parts, and_from}
use Rattle.ps_model.specs.PinBits.{pin_of}
use Rattle.ps_rows.specs.Counted.{kept_of}
use Rattle.ps_rows.proofs.Stepping.{few_modes, is_kept, some_answer}
use Rattle.ps_rows.proofs.step.CountedBlock.stepped_if_kept.Goals as goal

pub decided-requires : goal.decided-requires
decided-requires c =
    omega (arith, few_modes c.args.kind c.args.self.code c.args.self.mode (and_parts _ _ (sym c.fits.ensures ∙ c.if-not-fits.false)).1)

pub after-requires-clause-kept : goal.after-requires-clause-kept
after-requires-clause-kept c =
    is_kept c.args.kind (pin_of c.args.bits) c.args.limit c.saturating_sub-remains.result (kept_of c.args.self) c.in_ok-decided.decided
    (sym c.fits.ensures ∙ c.if-not-fits.false) c.in_ok-decided.ensures (search rules)

pub returns-clause-was : goal.returns-clause-was
returns-clause-was c =
    is_kept c.args.kind (pin_of c.args.bits) c.args.limit c.saturating_sub-remains.result (kept_of c.args.self) c.in_ok-decided.decided
    (sym c.fits.ensures ∙ c.if-not-fits.false) c.in_ok-decided.ensures (search rules)

pub returns-then-not-fits-clause-none : goal.returns-then-not-fits-clause-none
returns-then-not-fits-clause-none c =
    λ kept. false≢true (c.if-not-fits.ensures ∙ and_from _ _ (and_from _ _ kept.last_reset kept.last_auxiliary) kept.mode)

pub returns-in_err-decided-clause-none : goal.returns-in_err-decided-clause-none
returns-in_err-decided-clause-none c =
    rw c.from_residual.ensures
    (λ kept. some_answer c.args.kind (pin_of c.args.bits) c.args.limit c.saturating_sub-remains.result (kept_of c.args.self) kept.state c.in_err-decided.ensures)
