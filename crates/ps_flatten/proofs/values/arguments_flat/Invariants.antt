use Rattle.std.proofs.Common.{◌≡◌, map, take}
use Rattle.ps_flatten.specs.Laying.{blocks_seen}
use Rattle.ps_derived.specs.Flat.{argument_flat}
use Rattle.ps_parser.specs.ArgumentView.{argument_tree}
use Rattle.ps_flatten.proofs.values.arguments_flat.Given as goal

abbrev pub invariant-loop-argument : goal.invariant-loop-argument
invariant-loop-argument l = l.written ≡ map (argument_flat (blocks_seen l.body.blocks.now) l.body.scope.now) (map argument_tree (take l.argument-index l.arguments))
