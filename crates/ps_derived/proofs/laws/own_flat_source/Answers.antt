use Rattle.ps_derived.proofs.Alone as alone
use Rattle.ps_derived.proofs.laws.own_flat_source.Goals as goal

pub returns : goal.returns
returns c = alone.own_flat_source
