use Rattle.ps_derived.proofs.OneText as text
use Rattle.ps_derived.proofs.laws.one_answer.Goals as goal

pub returns : goal.returns
returns c = text.one_answer
