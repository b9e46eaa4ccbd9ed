use Rattle.ps_base.specs.declared.limits.TheConstants.{MOST_GROUPS}
use Rattle.ps_parser.specs.Grammar.{a_name, a_value, pin_end}
use Rattle.ps_parser.proofs.Joints.{in_first, in_second, reads_both}
use Rattle.ps_parser.proofs.Sentences.{pin_end_joint}
use Rattle.ps_parser.proofs.Reading.{exit}
use Rattle.ps_parser.proofs.read_statement.pin_value.Goals as goal

pub returns-in_err-pin : goal.returns-in_err-pin
returns-in_err-pin c =
    let n = MOST_GROUPS in
    exit a_name pin_end n n _ _ (in_first pin_end_joint n _) _ _ _ _ c.from_residual.ensures.1 (c.in_err-pin.ensures n)

pub returns-in_err-value : goal.returns-in_err-value
returns-in_err-value c =
    let n = MOST_GROUPS in
    exit a_value pin_end n n _ _ (in_second pin_end_joint n _ _ _ (c.in_ok-pin.ensures n)) _ _ _ _ c.from_residual-in_err-value.ensures.1 c.in_err-value.ensures

pub returns : goal.returns
returns c = reads_both pin_end_joint MOST_GROUPS _ _ _ _ _ (c.in_ok-pin.ensures MOST_GROUPS) c.in_ok-value.ensures
