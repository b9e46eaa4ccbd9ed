use Rattle.ps_top.proofs.OneJudgement as judged
use Rattle.ps_language_laws.proofs.laws.one_judgement.Goals as goal

pub returns : goal.returns
returns c = judged.one_judgement
