use Rattle.std.proofs.Common.{◌+◌, ◌*◌, ◌<◌, ◌∷◌, length}
use Rattle.ps_parser.specs.declared.sign.Sign.TheVariants.{And, Or}
use Rattle.ps_parser.specs.Symbol.{Mark, symbols}
use Rattle.ps_parser.specs.SumView.{factor_trees, product_trees}
use Rattle.ps_parser.specs.Phrase.{behind}
use Rattle.ps_parser.specs.Grammar.{a_factor, a_product}
use Rattle.ps_parser.proofs.Phrases.{ReadsSome}
use Rattle.ps_parser.proofs.read_expression.+expression.Given as goal

abbrev pub decreases-factor : goal.decreases-factor
decreases-factor l = 4 * l.limit + 1

abbrev pub decreases-group : goal.decreases-group
decreases-group l = 4 * l.limit

abbrev pub decreases-product : goal.decreases-product
decreases-product l = 4 * l.limit + 2

abbrev pub decreases-sum : goal.decreases-sum
decreases-sum l = 4 * l.limit + 3

abbrev pub invariant-product-each : goal.invariant-product-each
invariant-product-each l = record {
  some : 0 < length (factor_trees l.factors);
  reads : ReadsSome (behind (Mark And) a_factor) l.limit (Mark And ∷ symbols l.tokens) (factor_trees l.factors) (symbols l.rest);
}

abbrev pub decreases-product-each : goal.decreases-product-each
decreases-product-each l = length l.rest

abbrev pub invariant-sum-each : goal.invariant-sum-each
invariant-sum-each l = record {
  some : 0 < length (product_trees l.products);
  reads : ReadsSome (behind (Mark Or) a_product) l.limit (Mark Or ∷ symbols l.tokens) (product_trees l.products) (symbols l.rest);
}

abbrev pub decreases-sum-each : goal.decreases-sum-each
decreases-sum-each l = length l.rest
