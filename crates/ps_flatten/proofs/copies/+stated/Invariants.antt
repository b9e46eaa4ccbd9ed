use Rattle.std.proofs.Common.{◌≡◌, ◌+◌, ◌*◌, ◌++◌, map, take}
use Rattle.std.specs.List.{flat_map}
use Rattle.ps_derived.specs.Dotted.{statement_inside}
use Rattle.ps_flatten.specs.Laying.{blocks_seen, states}
use Rattle.ps_flatten.proofs.copies.+stated.Given as goal

abbrev pub invariant-add_stated-each : goal.invariant-add_stated-each
invariant-add_stated-each l = l.written ≡ l.initial.written ++ map (statement_inside l.instance) (flat_map (states (take l.limit (blocks_seen l.blocks))) (take l.piece-index l.pieces))

-- a copy is one of an earlier function block
abbrev pub decreases-add_stated : goal.decreases-add_stated
decreases-add_stated l = l.limit * 2 + 1

abbrev pub decreases-add_one_stated : goal.decreases-add_one_stated
decreases-add_one_stated l = l.limit * 2
