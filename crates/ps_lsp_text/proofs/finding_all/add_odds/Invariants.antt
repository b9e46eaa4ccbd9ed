use Rattle.std.proofs.Common.{map, take}
use Rattle.ps_lsp_text.specs.Findings.{odd_found}
use Rattle.ps_lsp_text.specs.Made.{Adds}
use Rattle.ps_lsp_text.proofs.finding_all.add_odds.Given as goal

-- the findings of those up to here were added
abbrev pub invariant-loop-comment : goal.invariant-loop-comment
invariant-loop-comment l =
    Adds l.initial.list.is_whole l.list.is_whole l.initial.list.list.items l.list.list.items
    (map (odd_found l.text l.tokens) (take l.comment-index l.comments))
