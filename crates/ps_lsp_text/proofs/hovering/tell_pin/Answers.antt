use Rattle.std.proofs.Common.{[], inr, refl, sym}
use Rattle.std.proofs.lemmas.List.{append-nil}
use Rattle.ps_lsp_text.proofs.hovering.tell_pin.Goals as goal

pub returns-in_default : goal.returns-in_default
returns-in_default c = ([], inr (c.in_default.ensures.none, refl), λ whole. (whole, sym (append-nil c.args.words.now.bytes)))
