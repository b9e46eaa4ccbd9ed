use Rattle.std.proofs.Common.{◌++◌, map, take, slice_get, sym, ap, ◌∙◌}
use Rattle.std.specs.List.{flat_map}
use Rattle.ps_derived.specs.Dotted.{statement_inside}
use Rattle.ps_flatten.specs.Laying.{blocks_seen, states}
use Rattle.ps_flatten.proofs.Copied.{stated_kept, none_stated}
use Rattle.ps_flatten.proofs.Pieces.{on_ok_then}
use Rattle.ps_flatten.proofs.Seen.{all_taken}
use Rattle.ps_flatten.proofs.copies.write_stated.Goals as goal

pub returns-in-None : goal.returns-in-None
returns-in-None c =
    let ls = c.args.blocks.now in
    let bs = blocks_seen ls in
    let k = c.in-Copy.place in
    none_stated c.in-Copy.name (slice_get bs k) c.args.written.now (c.in-None.ensures.seen ∙ all_taken ls c.len.result k c.len.ensures)
    ∙ ap (λ p. c.args.written.now ++ states bs p) (sym c.in-Copy.is)

pub returns : goal.returns
returns c =
    let ls = c.args.blocks.now in
    let bs = blocks_seen ls in
    let k = c.in-Copy.place in
    let written = c.args.written.now in
    on_ok_then _ _ c.add_stated.result
    (λ e.
    e ∙ ap (λ ps. written ++ map (statement_inside c.in-Copy.name) (flat_map (states (take k bs)) ps)) c.deref.ensures.value
    ∙ ap (λ l. written ++ l) (stated_kept (take k bs) c.in-Some.block.now c.in-Copy.name (slice_get bs k) (c.in-Some.ensures.seen ∙ all_taken ls c.len.result k c.len.ensures))
    ∙ ap (λ p. written ++ states bs p) (sym c.in-Copy.is))
    c.add_stated.ensures
