use Rattle.std.proofs.Common.{eqb, sym, ap, ◌∙◌, arith, w8, w64}
use Rattle.std.specs.Simd.Lanes.{chunk}
use Rattle.std.specs.Int.{trailing_zeros}
use Rattle.std.proofs.lemmas.Simd.{length-chunk, bitmask_splat, leading_from_mask_l, trailing_mask_l}
use Rattle.ps_lines.proofs.feeds.before_feed.Goals as goal

pub returns-then-feeds-eq0 : goal.returns-then-feeds-eq0
returns-then-feeds-eq0 c =
    let lanes = chunk c.args.from 16 c.args.bytes.now in
    let long = length-chunk c.args.from 16 c.args.bytes.now c.requires in
    let feeds = bitmask_splat w8 eqb lanes 16 10 long (omega arith) in
    sym (leading_from_mask_l (λ b. eqb b 10) lanes (sym feeds ∙ c.if-feeds-eq0.true) ∙ long)

pub returns-else-feeds-eq0 : goal.returns-else-feeds-eq0
returns-else-feeds-eq0 c =
    let lanes = chunk c.args.from 16 c.args.bytes.now in
    let long = length-chunk c.args.from 16 c.args.bytes.now c.requires in
    let feeds = bitmask_splat w8 eqb lanes 16 10 long (omega arith) in
    ap (trailing_zeros w64) feeds ∙ trailing_mask_l (λ b. eqb b 10) 64 lanes (omega arith) (omega arith)
