use Rattle.ps_flow.proofs.OneAnswer.{one_read}
use Rattle.ps_flow.proofs.laws.one_reading.Goals as goal

pub returns : goal.returns
returns c = one_read
