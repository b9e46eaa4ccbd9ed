use Rattle.ps_ways.proofs.Wording.{all_differ}
use Rattle.ps_ways.proofs.condition_laws.conditions_have_words_of_their_own.Goals as goal

pub returns : goal.returns
returns c = all_differ
