use Rattle.std.proofs.Common.{◌≡◌, [], IsTrue}
use Rattle.ps_lsp_text.specs.Completing.{AreOutputs}
use Rattle.ps_lsp_text.proofs.completing.add_outputs.Given as goal

abbrev pub invariant-loop-pin : goal.invariant-loop-pin
invariant-loop-pin l = l.initial.list.list.items ≡ [] → IsTrue l.list.is_whole → AreOutputs l.kind l.pin l.list.list.items
