use Rattle.ps_parser.proofs.Expressions.{refuses_name}
use Rattle.ps_parser.proofs.read_expression.name.Goals as goal

pub returns-in_default : goal.returns-in_default
returns-in_default c = λ limit. refuses_name limit _ c.in_default.ensures.none
