use Rattle.ps_lsp_text.specs.Describing.{pins_below}
use Rattle.ps_lsp_text.specs.Made.{Extends}
use Rattle.ps_lsp_text.proofs.described.add_pins.Given as goal

abbrev pub invariant-loop-pin : goal.invariant-loop-pin
invariant-loop-pin l = Extends l.initial.text l.text (pins_below l.kind l.pin)
