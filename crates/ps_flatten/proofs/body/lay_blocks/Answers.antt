use Rattle.std.proofs.Common.{◌+◌, [], ◌∷◌, ◌++◌, map, take, get_or, sym, ap, subst, ◌∙◌}
use Rattle.std.proofs.lemmas.List.{map_more}
use Rattle.ps_derived.specs.Spelling.{spelt_as_declared}
use Rattle.ps_derived.specs.Flat.{block_flat, blocks_flat}
use Rattle.ps_derived.proofs.Counts.{blocks_flat_push}
use Rattle.ps_flatten.specs.Laying.{AreLaid, block_seen, blocks_seen}
use Rattle.ps_flatten.proofs.Alike.{block_alike, laid_push}
use Rattle.ps_flatten.proofs.Seen.{seen_push}
use Rattle.ps_flatten.proofs.body.lay_blocks.Goals as goal

pub loop-i-preserved : goal.loop-i-preserved
loop-i-preserved c =
    let xs = c.args.sources.now in
    let i = c.loop-i.i in
    let d = c.index-sources-i.result in
    let x = get_or xs i d in
    let f = spelt_as_declared in
    let bs = blocks_flat [] (map f (take i xs)) in
    let ls = c.loop-i.blocks in
    let seen = blocks_seen ls in
    let l = block_seen seen c.in_ok-laid.laid in
    let one = block_alike seen bs c.loop-i.invariant l (f d) c.in_ok-laid.ensures.laid in
    subst (λ k. AreLaid (blocks_seen k) (blocks_flat [] (map f (take (i + 1) xs)))) (sym c.in_ok-blocks.ensures)
    (subst (λ k. AreLaid k (blocks_flat [] (map f (take (i + 1) xs)))) (sym (seen_push [] ls c.in_ok-laid.laid))
    (subst (AreLaid (seen ++ l ∷ []))
    (ap (λ s. bs ++ block_flat bs (f s) ∷ []) c.index-sources-i.is ∙ sym (blocks_flat_push [] (map f (take i xs)) (f x)) ∙ ap (blocks_flat []) (sym (map_more f xs i d c.loop-i-test.true)))
    (laid_push seen bs l (block_flat bs (f d)) c.loop-i.invariant one)))
