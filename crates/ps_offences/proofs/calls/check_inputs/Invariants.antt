use Rattle.std.proofs.Common.{◌≡◌, take}
use Rattle.std.specs.List.{flat_map}
use Rattle.ps_names.specs.Offences.{noted}
use Rattle.ps_parser.specs.ArgumentView.{argument_tree}
use Rattle.ps_offences.specs.BlockRules.{misgiven}
use Rattle.ps_offences.proofs.calls.check_inputs.Given as goal

abbrev pub invariant-loop-argument : goal.invariant-loop-argument
invariant-loop-argument l = l.found ≡ noted l.fn.found (flat_map (λ a. misgiven l.block (argument_tree a)) (take l.argument-index l.arguments))
