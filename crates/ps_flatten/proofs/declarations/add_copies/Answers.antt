use Rattle.std.proofs.Common.{◌++◌, take, sym, ap, ◌∙◌, append-nil}
use Rattle.std.specs.List.{flat_map}
use Rattle.ps_flatten.specs.Laying.{blocks_seen, declares}
use Rattle.ps_flatten.proofs.Copied.{copies_empty, empty_of}
use Rattle.ps_flatten.proofs.declarations.add_copies.Goals as goal

pub returns-then-is_empty : goal.returns-then-is_empty
returns-then-is_empty c =
    let bs = blocks_seen c.args.blocks.now in
    let b = c.args.block.now in
    let l = b.laid.now in
    let start = flat_map (declares bs) c.args.pieces.now.items in
    let none_ = empty_of l.declarations.len l.declarations.items c.is_empty.result c.if-is_empty.true c.is_empty.ensures l.declarations.ok.0 in
    sym (append-nil start) ∙ ap (λ ds. start ++ ds) (sym (copies_empty (take b.place bs) l c.args.names.now none_))
