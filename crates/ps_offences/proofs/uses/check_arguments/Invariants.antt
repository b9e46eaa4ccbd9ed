use Rattle.std.proofs.Common.{◌≡◌, take}
use Rattle.std.specs.List.{flat_map}
use Rattle.ps_names.specs.Offences.{noted}
use Rattle.ps_parser.specs.ArgumentView.{argument_tree}
use Rattle.ps_names.specs.Uses.{argument_uses}
use Rattle.ps_offences.specs.BlockRules.{misused}
use Rattle.ps_offences.proofs.uses.check_arguments.Given as goal

abbrev pub invariant-loop-argument : goal.invariant-loop-argument
invariant-loop-argument l = l.found ≡ noted l.fn.found (flat_map (λ a. flat_map (misused l.body.before.now l.body.scope.now) (argument_uses l.name (argument_tree a))) (take l.argument-index l.arguments))
