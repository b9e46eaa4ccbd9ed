use Rattle.std.proofs.Common.{◌≡◌, ◌+◌, ◌-◌, ◌∙◌, subst, sym, arith}
use Rattle.ps_lsp_text.proofs.OpenBrackets.{NoneOpen, one_before}
use Rattle.ps_lsp_text.proofs.declared.bracket_before.Goals as goal
use Rattle.ps_lsp_text.proofs.declared.bracket_before.Goals.{else-depth-eq0-via-then-depth-eq0+else-is_bracket, else-depth-eq0-via-else-depth-eq0}

pub loop-i-preserved : goal.loop-i-preserved
loop-i-preserved c =
    let tokens = c.args.tokens.now in
    let i = c.loop-i.i - 1 in
    let next : c.loop-i.i ≡ i + 1 = let some = c.loop-i-test.true in omega arith in
    let known = subst (λ (n : _). NoneOpen tokens c.args.at n c.loop-i.depth) next c.loop-i.invariant in
    one_before tokens c.args.at i c.loop-i.depth known (sym c.is_semicolon.ensures ∙ c.if-is_semicolon.false)
    (λ zero. elim c.else-depth-eq0.branch [
      | else-depth-eq0-via-then-depth-eq0+else-is_bracket w ↦ sym w.is_bracket.ensures ∙ w.if-is_bracket.false
      | else-depth-eq0-via-else-depth-eq0 w ↦ absurd (let some = w.if-depth-eq0.false in omega arith)
    ])
    c.depth_before-depth.result c.depth_before-depth.ensures (let fits = c.ranges.at.fits in omega arith)
