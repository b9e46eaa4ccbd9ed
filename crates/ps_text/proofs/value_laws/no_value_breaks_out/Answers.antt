use Rattle.ps_text.proofs.Bytewise.{value_quiet}
use Rattle.ps_text.proofs.value_laws.no_value_breaks_out.Goals as goal

pub returns : goal.returns
returns c = λ value bytes. value_quiet value bytes
