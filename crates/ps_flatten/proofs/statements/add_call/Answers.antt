use Rattle.std.proofs.Common.{◌++◌, map, IfSome, sym, ap, subst, ◌∙◌, append_assoc}
use Rattle.std.specs.List.{find, flat_map}
use Rattle.std.specs.Option.{option_map}
use Rattle.ps_parser.specs.ArgumentView.{argument_tree}
use Rattle.ps_parser.specs.declared.name.Name.{Name}
use Rattle.ps_derived.specs.Bodies.{same}
use Rattle.ps_derived.specs.Dotted.{inside, statement_inside}
use Rattle.ps_derived.specs.Flat.{input_assigned, call_flat}
use Rattle.ps_flatten.specs.Laying.{blocks_seen, instance_seen, states, IsKept}
use Rattle.ps_flatten.proofs.Pieces.{on_ok_then}
use Rattle.ps_flatten.proofs.statements.add_call.Goals as goal

pub returns-in_ok-add_inputs-in-Some : goal.returns-in_ok-add_inputs-in-Some
returns-in_ok-add_inputs-in-Some c =
    let i = c.in-Some.instance in
    let bs = blocks_seen c.args.body.now.blocks.now in
    let ds = c.args.body.now.scope.now in
    let args = map argument_tree c.args.arguments.now in
    let assigned = λ (x : Name). input_assigned bs ds (inside i.name.now x) (find (λ a. same x a.pin) args) in
    let copy = map (statement_inside i.name.now) (instance_seen bs i).block.flat.statements in
    let start = flat_map (states bs) c.args.pieces.now.items in
    let kept : IsKept bs i.block = subst (λ o. IfSome o (λ x. IsKept bs x.block)) c.in-Some.is c.in_ok-instance_of.ensures.kept in
    let instance = sym (ap (option_map (instance_seen bs)) c.in-Some.is) ∙ c.in_ok-instance_of.ensures.instance in
    on_ok_then _ _ c.add_copy.result
    (λ e.
    e ∙ ap (λ l. l ++ copy) c.in_ok-add_inputs-in-Some.ensures
    ∙ append_assoc start (map assigned i.block.laid.now.interface.inputs) copy
    ∙ ap (λ l. start ++ (map assigned l ++ copy)) kept.inputs
    ∙ ap (λ o. start ++ call_flat bs ds c.args.name.now args o) instance)
    c.add_copy.ensures
