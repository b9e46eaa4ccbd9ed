use Rattle.ps_parser.specs.Grammar.{a_name, a_target}
use Rattle.ps_parser.proofs.Expressions.{refuses_target, refuses_pin, reads_target, reads_pin}
use Rattle.ps_parser.proofs.Reading.{exit}
use Rattle.ps_parser.proofs.read_expression.target.Goals as goal

pub returns-in_err-first : goal.returns-in_err-first
returns-in_err-first c limit = exit a_name a_target limit limit _ _ (refuses_target limit _) _ _ _ _ c.from_residual.ensures.1 (c.in_err-first.ensures limit)

pub returns-in_default : goal.returns-in_default
returns-in_default c limit = reads_target limit _ _ _ (c.in_ok-first.ensures limit) c.in_default.ensures.none

pub returns-in_err-pin : goal.returns-in_err-pin
returns-in_err-pin c limit = exit a_name a_target limit limit _ _ (refuses_pin limit _ _ _ _ (c.in_ok-first.ensures limit) c.in-Some.ensures.found) _ _ _ _ c.from_residual-in_err-pin.ensures.1 (c.in_err-pin.ensures limit)

pub returns : goal.returns
returns c limit = reads_pin limit _ _ _ _ _ _ (c.in_ok-first.ensures limit) c.in-Some.ensures.found (c.in_ok-pin.ensures limit)
