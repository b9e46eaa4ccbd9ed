use Rattle.std.proofs.Common.{map, take}
use Rattle.serde_json.specs.View.{view}
use Rattle.ps_lsp_text.specs.Made.{Adds}
use Rattle.ps_lsp_text.specs.Published.{diagnostic_data}
use Rattle.ps_lsp_text.proofs.published.add_diagnostics.Given as goal

-- the diagnostics of those up to here were added
abbrev pub invariant-loop-finding : goal.invariant-loop-finding
invariant-loop-finding l =
    Adds l.initial.list.is_whole l.list.is_whole (map view l.initial.list.list.items) (map view l.list.list.items)
    (map diagnostic_data (take l.finding-index l.found))
