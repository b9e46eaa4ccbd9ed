use Rattle.std.proofs.Common.{◌≡◌, map, drop}
use Rattle.ps_parser.specs.ArgumentView.{argument_tree}
use Rattle.ps_names.specs.Stands.{actual_at}
use Rattle.ps_resolve.proofs.steps.arg_at.Given as goal

abbrev pub invariant-loop-argument : goal.invariant-loop-argument
invariant-loop-argument l = actual_at l.numbering.entries.now (map argument_tree (drop l.argument-index l.arguments)) l.pin ≡ actual_at l.numbering.entries.now (map argument_tree l.arguments) l.pin
