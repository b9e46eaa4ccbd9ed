use Rattle.std.proofs.Common.{sym, ◌∙◌}
use Rattle.ps_flow.proofs.Cutting.{lines_of_text, one_certificate}
use Rattle.ps_flow.proofs.laws.one_text_one_certificate.Goals as goal

pub returns : goal.returns
returns c = λ a b text na nb ia ib. one_certificate a b na nb (sym (lines_of_text a text na ia) ∙ lines_of_text b text nb ib)
