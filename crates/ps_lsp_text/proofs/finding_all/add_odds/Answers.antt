use Rattle.ps_lsp_text.specs.Findings.{odd_found}
use Rattle.ps_lsp_text.proofs.Adding.{adds_at, adds_item, adds_none}
use Rattle.ps_lsp_text.proofs.finding_all.add_odds.Goals as goal

pub loop-comment-init : goal.loop-comment-init
loop-comment-init c = adds_none _ _

pub loop-comment-preserved : goal.loop-comment-preserved
loop-comment-preserved c =
    adds_at (odd_found c.args.text.now c.args.tokens.now) _ _ _ _ _ _ c.args.comments.now c.loop-comment.comment-index _
    c.loop-comment.invariant (adds_item _ _ _ _ _ c.odd.result c.add.ensures.adds c.add.ensures.spoilt c.odd.ensures)
    c.loop-comment-test.true
