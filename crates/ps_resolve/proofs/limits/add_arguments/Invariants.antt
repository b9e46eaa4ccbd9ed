use Rattle.std.proofs.Common.{◌≡◌, ◌+◌, take, min, sum_by}
use Rattle.ps_parser.specs.ArgumentView.{argument_tree}
use Rattle.ps_names.specs.Limits.{sum_nodes}
use Rattle.ps_resolve.proofs.limits.add_arguments.Given as goal

abbrev pub invariant-loop-argument : goal.invariant-loop-argument
invariant-loop-argument l = l.count ≡ min (l.fn.so_far + sum_by (λ a. sum_nodes (argument_tree a).value) (take l.argument-index l.arguments)) 32768
