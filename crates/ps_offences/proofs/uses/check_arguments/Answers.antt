use Rattle.std.proofs.Common.{ap, ◌∙◌, arith}
use Rattle.std.specs.List.{flat_map}
use Rattle.std.proofs.lemmas.List.{take_all}
use Rattle.ps_parser.specs.ArgumentView.{argument_tree}
use Rattle.ps_names.specs.Offences.{noted}
use Rattle.ps_names.specs.Uses.{argument_uses}
use Rattle.ps_offences.specs.BlockRules.{misused}
use Rattle.ps_offences.proofs.Walks.{flat_flat}
use Rattle.ps_offences.proofs.uses.check_arguments.Goals as goal

pub returns : goal.returns
returns c =
    let g = misused c.args.body.now.before.now c.args.body.now.scope.now in let n = c.args.name.now in let xs = c.args.arguments.now in
    c.loop-argument.invariant ∙ ap (noted c.args.found)
    (ap (flat_map (λ a. flat_map g (argument_uses n (argument_tree a)))) (take_all c.loop-argument.argument-index xs (omega arith)) ∙ flat_flat g (argument_uses n) argument_tree xs)
