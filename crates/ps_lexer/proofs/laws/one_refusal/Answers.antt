use Rattle.ps_lexer.proofs.Meeting as meeting
use Rattle.ps_lexer.proofs.laws.one_refusal.Goals as goal

pub returns : goal.returns
returns c = meeting.one_refusal
