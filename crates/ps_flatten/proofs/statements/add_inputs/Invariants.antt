use Rattle.std.proofs.Common.{◌≡◌, ◌++◌, map, take}
use Rattle.std.specs.List.{flat_map, find}
use Rattle.ps_flatten.specs.Laying.{blocks_seen, states}
use Rattle.ps_derived.specs.Bodies.{same}
use Rattle.ps_derived.specs.Flat.{input_assigned}
use Rattle.ps_derived.specs.Dotted.{inside}
use Rattle.ps_parser.specs.ArgumentView.{argument_tree}
use Rattle.ps_flatten.proofs.statements.add_inputs.Given as goal

abbrev pub invariant-loop-input : goal.invariant-loop-input
invariant-loop-input l =
    flat_map (states (blocks_seen l.body.blocks.now)) l.pieces.items
    ≡ flat_map (states (blocks_seen l.body.blocks.now)) l.initial.pieces.items
    ++ map (λ x. input_assigned (blocks_seen l.body.blocks.now) l.body.scope.now (inside l.instance.name.now x) (find (λ a. same x a.pin) (map argument_tree l.arguments))) (take l.input-index l.input-items)
