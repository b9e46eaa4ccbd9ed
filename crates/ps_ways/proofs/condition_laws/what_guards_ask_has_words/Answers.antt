use Rattle.ps_ways.proofs.Wording.{all_asked}
use Rattle.ps_ways.proofs.condition_laws.what_guards_ask_has_words.Goals as goal

pub returns : goal.returns
returns c = all_asked
