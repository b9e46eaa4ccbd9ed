use Rattle.std.proofs.Common.{map, ap, ◌∙◌}
use Rattle.std.specs.List.{find, flat_map}
use Rattle.std.specs.Option.{option_map, option_copied}
use Rattle.ps_parser.specs.ArgumentView.{argument_tree}
use Rattle.ps_parser.specs.StatementView.{statement_tree}
use Rattle.ps_parser.specs.declared.name.Name.{Name}
use Rattle.ps_derived.specs.Bodies.{same}
use Rattle.ps_derived.specs.Dotted.{inside}
use Rattle.ps_derived.specs.Flat.{input_assigned}
use Rattle.ps_flatten.specs.declared.laid.StatementPiece.TheVariants.{Own}
use Rattle.ps_flatten.specs.Laying.{blocks_seen, states}
use Rattle.ps_flatten.proofs.Pieces.{map_grown, piece_pushed}
use Rattle.ps_flatten.proofs.statements.add_inputs.Goals as goal

pub loop-input-preserved : goal.loop-input-preserved
loop-input-preserved c =
    let g = c.args.instance.now.name.now in
    let bs = blocks_seen c.args.body.now.blocks.now in
    let args = map argument_tree c.args.arguments.now in
    let assigned = input_assigned bs c.args.body.now.scope.now in
    let f = λ (x : Name). assigned (inside g x) (find (λ a. same x a.pin) args) in
    let x = c.input-item.result in
    map_grown f (flat_map (states bs) c.args.pieces.now.items) (flat_map (states bs) c.loop-input.pieces.items) (flat_map (states bs) c.push.new.self.items)
    (statement_tree c.in_ok-one.one) c.as_slice-input-items.result.now c.loop-input.input-index x c.loop-input-test.true
    c.loop-input.invariant (piece_pushed (states bs) c.loop-input.pieces.items c.push.new.self.items (Own c.in_ok-one.one) c.in_ok-push.ensures.items)
    (c.in_ok-one.ensures ∙ ap (λ t. assigned t (option_map argument_tree (option_copied c.in_ok-argument.argument))) c.in_ok-target.ensures ∙ ap (assigned (inside g x)) c.in_ok-argument.ensures ∙ ap f c.input-item.is)
