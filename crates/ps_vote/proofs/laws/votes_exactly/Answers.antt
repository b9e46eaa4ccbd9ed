use Rattle.ps_vote.specs.Whole.{machines_in}
use Rattle.ps_vote.proofs.Built.{sized_in}
use Rattle.ps_vote.proofs.Voted.{votes_exactly}
use Rattle.ps_vote.proofs.laws.votes_exactly.Goals as goal

pub returns : goal.returns
returns c setup = votes_exactly (machines_in setup) setup.sizes.outputs setup.sizes.instances (sized_in setup)
