use Rattle.std.proofs.Common.{take, List, ◌++◌}
use Rattle.std.specs.List.{flat_map}
use Rattle.ps_parser.specs.declared.name.Name.{Name}
use Rattle.ps_parser.specs.SumView.{factor_tree, product_tree}
use Rattle.ps_names.specs.Uses.{read, factor_uses, product_uses}
use Rattle.ps_names.specs.Tables.{Has}
use Rattle.ps_resolve.proofs.reads.+reads.Given as goal

abbrev pub invariant-enter_sum-each : goal.invariant-enter_sum-each
invariant-enter_sum-each l = (ns : List Name) → Has l.initial.reads ns → Has l.reads (ns ++ flat_map (λ p. flat_map read (product_uses (product_tree p))) (take l.product-index l.product-items))

abbrev pub invariant-enter_product-each : goal.invariant-enter_product-each
invariant-enter_product-each l = (ns : List Name) → Has l.initial.reads ns → Has l.reads (ns ++ flat_map (λ f. flat_map read (factor_uses (factor_tree f))) (take l.factor-index l.factor-items))
