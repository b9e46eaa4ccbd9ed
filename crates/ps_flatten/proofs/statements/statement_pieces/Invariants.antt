use Rattle.std.proofs.Common.{◌≡◌, map, take}
use Rattle.std.specs.List.{flat_map}
use Rattle.ps_flatten.specs.Laying.{blocks_seen, states}
use Rattle.ps_derived.specs.Flat.{statement_flat}
use Rattle.ps_parser.specs.StatementView.{statement_tree}
use Rattle.ps_flatten.proofs.statements.statement_pieces.Given as goal

abbrev pub invariant-loop-statement : goal.invariant-loop-statement
invariant-loop-statement l =
    flat_map (states (blocks_seen l.body.blocks.now)) l.pieces.items
    ≡ flat_map (statement_flat (blocks_seen l.body.blocks.now) l.body.scope.now) (map statement_tree (take l.statement-index l.statements))
