use Rattle.ps_top.proofs.OneAnswer as answers
use Rattle.ps_top.proofs.laws.one_answer.Goals as goal

pub returns : goal.returns
returns c = answers.one_answer
