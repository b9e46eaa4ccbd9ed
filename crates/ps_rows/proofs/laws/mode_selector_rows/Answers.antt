use Rattle.ps_rows.proofs.Selecting.{mode_selector_decides}
use Rattle.ps_rows.proofs.laws.mode_selector_rows.Goals as goal

pub returns : goal.returns
returns c = mode_selector_decides
