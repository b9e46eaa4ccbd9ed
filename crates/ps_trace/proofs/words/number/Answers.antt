use Rattle.std.proofs.Common.{◌≡◌, ◌≤◌, ◌+◌, ◌*◌, ◌-◌, ◌∙◌, sym, refl, get_or, arith}
use Rattle.std.proofs.lemmas.Grind.{common_steps}
use Rattle.ps_trace.proofs.Numbers.{number_of-too_large, number_of-digits}
use Rattle.ps_trace.proofs.words.number.Goals as goal

pub returns-in_err-checked_mul : goal.returns-in_err-checked_mul
returns-in_err-checked_mul c =
    let over : 4294967296 ≤ c.loop-digit.value * 10 = grind (arith, common_steps) in
    c.from_residual.ensures ∙ sym (number_of-too_large c.args.word.now c.loop-digit.digit-index c.loop-digit.value _ c.loop-digit-test.true c.loop-digit.invariant.value refl (omega arith))

pub returns-in_err-value : goal.returns-in_err-value
returns-in_err-value c =
    let product : c.in_ok-checked_mul.field-0 ≡ c.loop-digit.value * 10 = grind (arith, common_steps) in
    let over : 4294967296 ≤ c.in_ok-checked_mul.field-0 + c.from.result = grind (arith, common_steps) in
    let digit : c.from.result ≡ get_or c.args.word.now c.loop-digit.digit-index 0 - 48 = grind (arith, common_steps) in
    c.from_residual-in_err-value.ensures
    ∙ sym (number_of-too_large c.args.word.now c.loop-digit.digit-index c.loop-digit.value (get_or c.args.word.now c.loop-digit.digit-index 0) c.loop-digit-test.true c.loop-digit.invariant.value refl (omega arith))

pub returns : goal.returns
returns c = number_of-digits c.args.word.now c.loop-digit.digit-index c.loop-digit.value (grind (arith, common_steps)) (omega arith) c.loop-digit.invariant.digits c.loop-digit.invariant.value c.loop-digit.invariant.fits
