use Rattle.std.proofs.Common.{ap, sym, ◌∙◌}
use Rattle.ps_parser.specs.Grammar.{a_target, a_factor}
use Rattle.ps_parser.proofs.Expressions.{operand, reads_operand, refuses_operand}
use Rattle.ps_parser.proofs.Views.{factor_tree-Name, factor_tree-Pin}
use Rattle.ps_parser.proofs.Reading.{exit}
use Rattle.ps_parser.proofs.read_expression.operand.Goals as goal

pub returns-in_err-target : goal.returns-in_err-target
returns-in_err-target c =
    let limit = c.args.limit in
    exit a_target a_factor limit limit _ _ (refuses_operand limit _ c.requires) _ _ _ _ c.from_residual.ensures.1 (c.in_err-target.ensures limit)

pub returns-in-Name : goal.returns-in-Name
returns-in-Name c = reads_operand c.args.limit _ _ _ _ (ap operand c.in-Name.is ∙ sym (factor_tree-Name c.in-Name.name)) (c.in_ok-target.ensures c.args.limit)

pub returns-in-Pin : goal.returns-in-Pin
returns-in-Pin c = reads_operand c.args.limit _ _ _ _ (ap operand c.in-Pin.is ∙ sym (factor_tree-Pin c.in-Pin.name c.in-Pin.pin)) (c.in_ok-target.ensures c.args.limit)
