use Rattle.std.proofs.Common.{◌≡◌, map, take}
use Rattle.ps_model.specs.Blocks.{Pin, block}
use Rattle.ps_parser.specs.ArgumentView.{argument_tree}
use Rattle.ps_names.specs.Stands.{actual_at}
use Rattle.ps_resolve.proofs.steps.args_of.Given as goal

abbrev pub invariant-loop-j : goal.invariant-loop-j
invariant-loop-j l = l.args ≡ map (λ (p : Pin). actual_at l.numbering.entries.now (map argument_tree l.arguments) p.name) (take l.j (block l.kind).inputs)
