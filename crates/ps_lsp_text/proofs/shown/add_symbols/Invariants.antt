use Rattle.std.proofs.Common.{map, take}
use Rattle.serde_json.specs.View.{view}
use Rattle.ps_lsp_text.specs.Made.{Adds}
use Rattle.ps_lsp_text.specs.Outlining.{symbol_data}
use Rattle.ps_lsp_text.proofs.shown.add_symbols.Given as goal

-- the names up to here were added
abbrev pub invariant-loop-symbol : goal.invariant-loop-symbol
invariant-loop-symbol l =
    Adds l.initial.list.is_whole l.list.is_whole (map view l.initial.list.list.items) (map view l.list.list.items)
    (map symbol_data (take l.symbol-index l.symbols))
