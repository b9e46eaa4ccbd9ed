use Rattle.std.proofs.Common.{◌≡◌, map, take}
use Rattle.ps_derived.specs.Renaming.{argument_renamed}
use Rattle.ps_parser.specs.ArgumentView.{argument_tree}
use Rattle.ps_flatten.specs.Laying.{renamed}
use Rattle.ps_flatten.proofs.renaming.arguments_renamed.Given as goal

abbrev pub invariant-loop-argument : goal.invariant-loop-argument
invariant-loop-argument l = l.copies ≡ map (argument_renamed (renamed l.renaming)) (map argument_tree (take l.argument-index l.arguments))
