use Rattle.ps_parser.proofs.Uniqueness as uniqueness
use Rattle.ps_parser.proofs.laws.refused_or_spelt.Goals as goal

pub returns : goal.returns
returns c = uniqueness.refused_or_spelt
