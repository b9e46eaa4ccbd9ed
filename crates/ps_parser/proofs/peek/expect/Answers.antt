use Rattle.ps_parser.specs.Symbol.{Mark}
use Rattle.ps_parser.proofs.Expressions.{refuses_just}
use Rattle.ps_parser.proofs.peek.expect.Goals as goal

pub returns-in-None : goal.returns-in-None
returns-in-None c = λ limit. refuses_just (Mark c.args.sign) (tt, tt) limit _ c.in-None.ensures.none
