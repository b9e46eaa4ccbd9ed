use Rattle.ps_ways.proofs.StateWording.{own_words}
use Rattle.ps_ways.proofs.state_laws.states_have_words_of_their_own.Goals as goal

pub returns : goal.returns
returns c = own_words
