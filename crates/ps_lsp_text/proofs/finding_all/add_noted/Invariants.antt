use Rattle.std.proofs.Common.{map, take}
use Rattle.ps_lsp_text.specs.Findings.{note_found}
use Rattle.ps_lsp_text.specs.Made.{Adds}
use Rattle.ps_lsp_text.proofs.finding_all.add_noted.Given as goal

-- the findings of those up to here were added
abbrev pub invariant-loop-placed : goal.invariant-loop-placed
invariant-loop-placed l =
    Adds l.initial.list.is_whole l.list.is_whole l.initial.list.list.items l.list.list.items
    (map (note_found l.text l.tokens l.app) (take l.placed-index l.notes))
