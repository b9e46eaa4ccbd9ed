use Rattle.std.proofs.Common.{sym, ◌∙◌, arith}
use Rattle.ps_lsp_text.specs.Looking.{is_touched}
use Rattle.ps_lsp_text.proofs.AtTokens.{touched_here, touched_nowhere, test_below, is_touched_true, is_touched_apart, is_touched_unnamed, name_there}
use Rattle.ps_lsp_text.proofs.looking.name_touched.Goals as goal
use Rattle.ps_lsp_text.proofs.looking.name_touched.Goals.{else-touches-via-then-touches+else-is_some, else-touches-via-else-touches}

pub loop-i-preserved : goal.loop-i-preserved
loop-i-preserved c =
    test_below (is_touched c.args.place) c.args.tokens.now c.loop-i.i c.index-tokens-i.result (omega arith) c.index-tokens-i.is c.loop-i.invariant
    (elim c.else-touches.branch [
      | else-touches-via-then-touches+else-is_some w ↦ is_touched_unnamed c.args.place c.args.tokens.now c.loop-i.i c.index-tokens-i.result (omega arith) c.index-tokens-i.is
          (sym (name_there w.name_at.result _ w.name_at.ensures) ∙ sym w.is_some.ensures ∙ w.if-is_some.false)
      | else-touches-via-else-touches w ↦ is_touched_apart c.args.place c.index-tokens-i.result (sym c.touches.ensures ∙ w.if-touches.false)
    ])

pub returns-then-is_some : goal.returns-then-is_some
returns-then-is_some c =
    touched_here (is_touched c.args.place) c.args.tokens.now c.loop-i.i c.index-tokens-i.result (omega arith) c.index-tokens-i.is c.loop-i.invariant
    (is_touched_true c.args.place c.args.tokens.now c.loop-i.i c.index-tokens-i.result (omega arith) c.index-tokens-i.is
    (sym c.touches.ensures ∙ c.if-touches.true) (sym (name_there c.name_at.result _ c.name_at.ensures) ∙ sym c.is_some.ensures ∙ c.if-is_some.true))

pub returns : goal.returns
returns c = touched_nowhere (is_touched c.args.place) c.args.tokens.now c.loop-i.i (omega arith) c.loop-i.invariant
