use Rattle.serde_json.specs.View.{view}
use Rattle.ps_lsp_text.specs.Published.{diagnostic_data}
use Rattle.ps_lsp_text.proofs.Adding.{adds_next, adds_none, adds_seen}
use Rattle.ps_lsp_text.proofs.published.add_diagnostics.Goals as goal

pub loop-finding-init : goal.loop-finding-init
loop-finding-init c = adds_none _ _

pub loop-finding-preserved : goal.loop-finding-preserved
loop-finding-preserved c =
    adds_next diagnostic_data _ _ _ _ _ _ c.args.found.now c.loop-finding.finding-index c.finding-item.result c.loop-finding.invariant
    (adds_seen view _ _ _ _ (diagnostic_data c.finding-item.result) c.diagnostic.result c.add.ensures.adds c.add.ensures.spoilt c.diagnostic.ensures)
    c.loop-finding-test.true c.finding-item.is
