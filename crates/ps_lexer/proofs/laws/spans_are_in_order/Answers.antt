use Rattle.ps_lexer.proofs.Pieces.{in_order}
use Rattle.ps_lexer.proofs.laws.spans_are_in_order.Goals as goal

pub returns : goal.returns
returns c = λ text t read. in_order read.1
