use Rattle.ps_lexer.proofs.Meeting.{refused_not_read}
use Rattle.ps_lexer.proofs.laws.refused_is_not_read.Goals as goal

pub returns : goal.returns
returns c = λ text r t refused read. refused_not_read text r t.list refused read.0 read.1
