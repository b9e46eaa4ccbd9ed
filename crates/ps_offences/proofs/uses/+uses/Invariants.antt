use Rattle.std.proofs.Common.{◌≡◌, take}
use Rattle.std.specs.List.{flat_map}
use Rattle.ps_names.specs.Offences.{noted}
use Rattle.ps_names.specs.Uses.{factor_uses, product_uses}
use Rattle.ps_parser.specs.SumView.{factor_tree, product_tree}
use Rattle.ps_offences.specs.BlockRules.{misused}
use Rattle.ps_offences.proofs.uses.+uses.Given as goal

abbrev pub invariant-check_sum-each : goal.invariant-check_sum-each
invariant-check_sum-each l = l.found ≡ noted l.fn.found (flat_map (λ p. flat_map (misused l.body.before.now l.body.scope.now) (product_uses (product_tree p))) (take l.product-index l.product-items))

abbrev pub invariant-check_product-each : goal.invariant-check_product-each
invariant-check_product-each l = l.found ≡ noted l.fn.found (flat_map (λ f. flat_map (misused l.body.before.now l.body.scope.now) (factor_uses (factor_tree f))) (take l.factor-index l.factor-items))
