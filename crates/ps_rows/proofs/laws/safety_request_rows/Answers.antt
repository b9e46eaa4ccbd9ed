use Rattle.ps_rows.proofs.Requesting.{safety_request_decides}
use Rattle.ps_rows.proofs.laws.safety_request_rows.Goals as goal

pub returns : goal.returns
returns c = safety_request_decides
