use Rattle.ps_text.proofs.Bytewise.{value_read}
use Rattle.ps_text.proofs.value_laws.values_are_read_back.Goals as goal

pub returns : goal.returns
returns c = λ value bytes. value_read value bytes
