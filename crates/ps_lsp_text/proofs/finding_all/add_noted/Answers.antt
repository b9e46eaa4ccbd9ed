use Rattle.ps_lsp_text.specs.Findings.{note_found}
use Rattle.ps_lsp_text.proofs.Adding.{adds_at, adds_item, adds_none}
use Rattle.ps_lsp_text.proofs.finding_all.add_noted.Goals as goal

pub loop-placed-init : goal.loop-placed-init
loop-placed-init c = adds_none _ _

pub loop-placed-preserved : goal.loop-placed-preserved
loop-placed-preserved c =
    adds_at (note_found c.args.text.now c.args.tokens.now c.args.app.now) _ _ _ _ _ _ c.args.notes.now c.loop-placed.placed-index _
    c.loop-placed.invariant (adds_item _ _ _ _ _ c.noted.result c.add.ensures.adds c.add.ensures.spoilt c.noted.ensures)
    c.loop-placed-test.true
