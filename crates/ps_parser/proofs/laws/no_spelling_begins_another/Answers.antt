use Rattle.ps_parser.proofs.Uniqueness as uniqueness
use Rattle.ps_parser.proofs.laws.no_spelling_begins_another.Goals as goal

pub returns : goal.returns
returns c = uniqueness.no_spelling_begins_another
