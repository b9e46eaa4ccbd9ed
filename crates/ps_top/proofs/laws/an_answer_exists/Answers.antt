use Rattle.ps_top.proofs.SomeAnswer.{some_answer}
use Rattle.ps_top.proofs.laws.an_answer_exists.Goals as goal

pub returns : goal.returns
returns c = some_answer
