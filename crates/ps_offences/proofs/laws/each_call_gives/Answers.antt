use Rattle.ps_offences.proofs.Giving as proof
use Rattle.ps_offences.proofs.laws.each_call_gives.Goals as goal

pub returns : goal.returns
returns c = proof.each_call_gives
