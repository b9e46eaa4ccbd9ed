use Rattle.ps_flow.proofs.OneAnswer.{read_back}
use Rattle.ps_flow.proofs.laws.written_is_read_back.Goals as goal

pub returns : goal.returns
returns c = read_back
