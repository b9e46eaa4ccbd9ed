use Rattle.ps_lsp_text.specs.Describing.{states_below}
use Rattle.ps_lsp_text.specs.Made.{Extends}
use Rattle.ps_lsp_text.proofs.described.add_states.Given as goal

abbrev pub invariant-loop-code : goal.invariant-loop-code
invariant-loop-code l = Extends l.initial.text l.text (states_below l.kind l.code)
