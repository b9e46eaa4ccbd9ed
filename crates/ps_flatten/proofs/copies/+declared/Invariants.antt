use Rattle.std.proofs.Common.{◌≡◌, ◌+◌, ◌*◌, ◌++◌, map, take}
use Rattle.std.specs.List.{flat_map}
use Rattle.ps_derived.specs.Dotted.{declaration_inside}
use Rattle.ps_flatten.specs.Laying.{blocks_seen, declares}
use Rattle.ps_flatten.proofs.copies.+declared.Given as goal

abbrev pub invariant-add_declared-each : goal.invariant-add_declared-each
invariant-add_declared-each l = l.written ≡ l.initial.written ++ map (declaration_inside l.instance) (flat_map (declares (take l.limit (blocks_seen l.blocks))) (take l.piece-index l.pieces))

-- a copy is one of an earlier function block
abbrev pub decreases-add_declared : goal.decreases-add_declared
decreases-add_declared l = l.limit * 2 + 1

abbrev pub decreases-add_one_declared : goal.decreases-add_one_declared
decreases-add_one_declared l = l.limit * 2
