use Rattle.std.proofs.Common.{ap, ◌∙◌, arith}
use Rattle.std.specs.List.{flat_map}
use Rattle.std.proofs.lemmas.List.{take_all}
use Rattle.ps_parser.specs.ArgumentView.{argument_tree}
use Rattle.ps_names.specs.Offences.{noted}
use Rattle.ps_offences.specs.BlockRules.{misgiven}
use Rattle.ps_offences.proofs.Walks.{flat_seen}
use Rattle.ps_offences.proofs.calls.check_inputs.Goals as goal

pub returns : goal.returns
returns c =
    let xs = c.args.arguments.now in
    c.loop-argument.invariant ∙ ap (noted c.args.found)
    (ap (flat_map (λ a. misgiven c.args.block.now (argument_tree a))) (take_all c.loop-argument.argument-index xs (omega arith)) ∙ flat_seen (misgiven c.args.block.now) argument_tree xs)
