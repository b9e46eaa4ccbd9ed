use Rattle.ps_lsp_text.proofs.Adding.{told_next, told_none}
use Rattle.ps_lsp_text.proofs.finding_all.add_each.Goals as goal

pub loop-refusal-init : goal.loop-refusal-init
loop-refusal-init c = told_none c.args.text.now c.args.tokens.now _ _

pub loop-refusal-preserved : goal.loop-refusal-preserved
loop-refusal-preserved c =
    told_next c.args.text.now c.args.tokens.now _ _ _ _ _ _ c.args.refusals.now c.loop-refusal.refusal-index _ c.refused.result
    c.loop-refusal.invariant c.add.ensures.adds c.add.ensures.spoilt c.refused.ensures c.loop-refusal-test.true
