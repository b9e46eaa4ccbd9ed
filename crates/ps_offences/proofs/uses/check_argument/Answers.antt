use Rattle.std.proofs.Common.{◌≡◌, IfOk, sym, refl, subst}
use Rattle.ps_parser.specs.SumView.{sum_tree}
use Rattle.ps_names.specs.Offences.{noted}
use Rattle.ps_offences.specs.BlockRules.{misused}
use Rattle.ps_offences.proofs.Walks.{value_breaks}
use Rattle.ps_offences.proofs.uses.check_argument.Goals as goal

pub returns : goal.returns
returns c =
    subst (λ os. IfOk c.check_sum.result (λ r. r ≡ noted c.args.found os)) (sym (value_breaks (misused c.args.body.now.before.now c.args.body.now.scope.now) (λ place. refl) (sum_tree c.args.argument.now.value))) c.check_sum.ensures
