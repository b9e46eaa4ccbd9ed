use Rattle.std.proofs.Common.{◌≡◌, drop}
use Rattle.ps_lsp_text.specs.Texts.{held_in}
use Rattle.ps_lsp_text.proofs.texts.Texts.text_of.Given as goal

abbrev pub invariant-texts : goal.invariant-texts
invariant-texts l = record { left : held_in l.uri (drop l.text-index l.text-items) ≡ held_in l.uri l.text-items }
