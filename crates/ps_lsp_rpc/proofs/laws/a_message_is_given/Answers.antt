use Rattle.ps_lsp_rpc.proofs.Lengths.{given}
use Rattle.ps_lsp_rpc.proofs.laws.a_message_is_given.Goals as goal

pub returns : goal.returns
returns c = given
