use Rattle.std.proofs.Common.{◌≡◌, drop}
use Rattle.ps_lsp_text.specs.Texts.{earlier_in}
use Rattle.ps_lsp_text.proofs.texts.Texts.earlier_of.Given as goal

abbrev pub invariant-texts : goal.invariant-texts
invariant-texts l = record { left : earlier_in l.uri (drop l.text-index l.text-items) ≡ earlier_in l.uri l.text-items }
