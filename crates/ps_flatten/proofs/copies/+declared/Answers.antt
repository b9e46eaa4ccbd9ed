use Rattle.std.proofs.Common.{◌++◌, map, take, slice_get, sym, ap, ◌∙◌}
use Rattle.std.specs.List.{flat_map}
use Rattle.ps_derived.specs.Dotted.{declaration_inside}
use Rattle.ps_flatten.specs.Laying.{blocks_seen, declares}
use Rattle.ps_flatten.proofs.Copied.{copy_kept_inside}
use Rattle.ps_flatten.proofs.Pieces.{on_ok_then}
use Rattle.ps_flatten.proofs.copies.+declared.Goals as goal

pub add_one_declared-returns-in_ok-path-in-Some : goal.add_one_declared-returns-in_ok-path-in-Some
add_one_declared-returns-in_ok-path-in-Some t c =
    let g = c.args.instance.now in
    let bs = blocks_seen c.args.blocks.now in
    let k = c.in-Copy.place in
    let first = take c.args.limit bs in
    let path = c.in_ok-path-in-Some.path in
    let written = c.args.written.now in
    on_ok_then _ _ c.add_declared.result
    (λ e.
    e ∙ ap (λ ps. written ++ map (declaration_inside path) (flat_map (declares (take k bs)) ps)) c.deref.ensures.value
    ∙ ap (λ l. written ++ l) (copy_kept_inside (take k bs) c.in-Some.block.now g c.in-Copy.name path (slice_get first k) c.in_ok-path-in-Some.ensures c.in-Some.ensures.seen)
    ∙ ap (λ p. written ++ map (declaration_inside g) (declares first p)) (sym c.in-Copy.is))
    c.add_declared.ensures
