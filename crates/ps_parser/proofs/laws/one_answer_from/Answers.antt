use Rattle.ps_parser.proofs.Uniqueness as uniqueness
use Rattle.ps_parser.proofs.laws.one_answer_from.Goals as goal

pub returns : goal.returns
returns c = uniqueness.one_answer_from
