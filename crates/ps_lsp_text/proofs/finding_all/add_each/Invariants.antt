use Rattle.std.proofs.Common.{take}
use Rattle.ps_lsp_text.specs.Telling.{AddsTold}
use Rattle.ps_lsp_text.proofs.finding_all.add_each.Given as goal

-- those up to here were told
abbrev pub invariant-loop-refusal : goal.invariant-loop-refusal
invariant-loop-refusal l =
    AddsTold l.text l.tokens (take l.refusal-index l.refusals) l.initial.list.is_whole l.list.is_whole l.initial.list.list.items
    l.list.list.items
