use Rattle.std.proofs.Common.{map, take}
use Rattle.serde_json.specs.View.{view}
use Rattle.ps_lsp_text.specs.Made.{Adds}
use Rattle.ps_lsp_text.specs.Completing.{item_data}
use Rattle.ps_lsp_text.proofs.shown.add_items.Given as goal

-- the items up to here were added
abbrev pub invariant-loop-item : goal.invariant-loop-item
invariant-loop-item l =
    Adds l.initial.list.is_whole l.list.is_whole (map view l.initial.list.list.items) (map view l.list.list.items)
    (map item_data (take l.item-index l.items))
