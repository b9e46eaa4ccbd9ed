use Rattle.ps_lexer.proofs.Meeting.{one_list}
use Rattle.ps_lexer.proofs.laws.one_token_list.Goals as goal

pub returns : goal.returns
returns c = one_list
