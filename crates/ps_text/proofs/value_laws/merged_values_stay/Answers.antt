use Rattle.ps_text.proofs.Merging.{value_merged}
use Rattle.ps_text.proofs.value_laws.merged_values_stay.Goals as goal

pub returns : goal.returns
returns c = λ spans place beside. value_merged spans place beside
