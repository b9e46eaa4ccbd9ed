use Rattle.serde_json.specs.View.{view}
use Rattle.ps_lsp_text.specs.Outlining.{symbol_data}
use Rattle.ps_lsp_text.proofs.Adding.{adds_next, adds_none, adds_seen}
use Rattle.ps_lsp_text.proofs.shown.add_symbols.Goals as goal

pub loop-symbol-init : goal.loop-symbol-init
loop-symbol-init c = adds_none _ _

pub loop-symbol-preserved : goal.loop-symbol-preserved
loop-symbol-preserved c =
    adds_next symbol_data _ _ _ _ _ _ c.args.symbols.now c.loop-symbol.symbol-index c.symbol-item.result c.loop-symbol.invariant
    (adds_seen view _ _ _ _ (symbol_data c.symbol-item.result) c.symbol_value.result c.add.ensures.adds c.add.ensures.spoilt c.symbol_value.ensures)
    c.loop-symbol-test.true c.symbol-item.is
