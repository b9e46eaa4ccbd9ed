use Rattle.std.proofs.Common.{arith}
use Rattle.ps_lexer.proofs.Times.{too_big}
use Rattle.ps_lexer.proofs.time.number.Goals as goal

pub returns-in_err-checked_mul-clause-none : goal.returns-in_err-checked_mul-clause-none
returns-in_err-checked_mul-clause-none c = rw c.from_residual.ensures
    (let big = c.in_err-checked_mul.ensures in
    too_big c.args.digits.now c.loop-d.d-index c.loop-d.n c.loop-d-test.true c.loop-d.invariant.same (omega (arith, big)))

pub returns-in_err-n-clause-none : goal.returns-in_err-n-clause-none
returns-in_err-n-clause-none c = rw c.from_residual-in_err-n.ensures
    (let big = c.in_err-n.ensures in let ten = c.in_ok-checked_mul.ensures in let digit = c.from-digit.ensures in
    too_big c.args.digits.now c.loop-d.d-index c.loop-d.n c.loop-d-test.true c.loop-d.invariant.same (omega (arith, big, ten.1, digit)))
