use Rattle.serde_json.specs.View.{view}
use Rattle.ps_lsp_text.specs.Completing.{item_data}
use Rattle.ps_lsp_text.proofs.Adding.{adds_next, adds_none, adds_seen}
use Rattle.ps_lsp_text.proofs.shown.add_items.Goals as goal

pub loop-item-init : goal.loop-item-init
loop-item-init c = adds_none _ _

pub loop-item-preserved : goal.loop-item-preserved
loop-item-preserved c =
    adds_next item_data _ _ _ _ _ _ c.args.items.now c.loop-item.item-index c.item-item.result c.loop-item.invariant
    (adds_seen view _ _ _ _ (item_data c.item-item.result) c.item_value.result c.add.ensures.adds c.add.ensures.spoilt c.item_value.ensures)
    c.loop-item-test.true c.item-item.is
