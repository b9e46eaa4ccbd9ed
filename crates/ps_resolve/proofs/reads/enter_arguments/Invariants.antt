use Rattle.std.proofs.Common.{take, List, ◌++◌}
use Rattle.std.specs.List.{flat_map}
use Rattle.ps_parser.specs.declared.name.Name.{Name}
use Rattle.ps_parser.specs.ArgumentView.{argument_tree}
use Rattle.ps_names.specs.Uses.{read, sum_uses}
use Rattle.ps_names.specs.Tables.{Has}
use Rattle.ps_resolve.proofs.reads.enter_arguments.Given as goal

abbrev pub invariant-loop-argument : goal.invariant-loop-argument
invariant-loop-argument l = (ns : List Name) → Has l.initial.reads ns → Has l.reads (ns ++ flat_map (λ a. flat_map read (sum_uses (argument_tree a).value)) (take l.argument-index l.arguments))
