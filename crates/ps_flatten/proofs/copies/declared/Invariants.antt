use Rattle.std.proofs.Common.{◌≡◌, ◌++◌}
use Rattle.std.specs.List.{flat_map}
use Rattle.ps_flatten.specs.Laying.{blocks_seen, declares}
use Rattle.ps_flatten.proofs.copies.declared.Given as goal

-- what is written, and what the pieces that are left stand for, is the whole
abbrev pub invariant-loop-piece : goal.invariant-loop-piece
invariant-loop-piece l =
    l.written ++ flat_map (declares (blocks_seen l.blocks)) l.piece-iterator.rest.items ≡ flat_map (declares (blocks_seen l.blocks)) l.fn.pieces.items
