-- Trees that are made part by part.
use Rattle.std.proofs.Common.{◌≡◌, List, [], ◌∷◌, map, sym, ap, ◌∙◌}
use Rattle.ps_parser.specs.declared.expression.Factor as code
use Rattle.ps_parser.specs.declared.expression.Product as code_product
use Rattle.ps_parser.specs.SumView.{factor_tree, product_tree}
use Rattle.ps_parser.specs.Tree.{FactorTree, ProductTree, no_factor, factor, SumTree, no_product, product, product_of, sum_of}

-- where a product is made factor by factor
module _ (h : FactorTree → FactorTree) (p : ProductTree → ProductTree) (none_ : p no_factor ≡ no_factor) (more : (f : FactorTree) (fs : ProductTree) → p (factor f fs) ≡ factor (h f) (p fs)) where
  pub product_made : (fs : List code.Factor) → product_of (map (λ f. h (factor_tree f)) fs) ≡ p (product_of (map factor_tree fs))
  product_made [] = sym none_
  product_made (f ∷ fs) = ap (factor (h (factor_tree f))) (product_made fs) ∙ sym (more (factor_tree f) (product_of (map factor_tree fs)))

-- where a sum is made product by product
module _ (h : ProductTree → ProductTree) (s : SumTree → SumTree) (none_ : s no_product ≡ no_product) (more : (p : ProductTree) (ps : SumTree) → s (product p ps) ≡ product (h p) (s ps)) where
  pub sum_made : (ps : List code_product.Product) → sum_of (map (λ p. h (product_tree p)) ps) ≡ s (sum_of (map product_tree ps))
  sum_made [] = sym none_
  sum_made (p ∷ ps) = ap (product (h (product_tree p))) (sum_made ps) ∙ sym (more (product_tree p) (sum_of (map product_tree ps)))
