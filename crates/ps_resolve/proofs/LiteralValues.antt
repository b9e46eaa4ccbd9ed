-- A product of two factors or more, and a sum of two products or more, is no literal.
use Rattle.std.proofs.Common.{◌≡◌, ◌≤◌, List, [], ◌∷◌, None, length, map, refl, sym, ap, subst, ◌∙◌, arith}
use Rattle.std.proofs.lemmas.List.{length-map}
use Rattle.ps_parser.specs.declared.expression.Factor as code
use Rattle.ps_parser.specs.declared.expression.Product.{Product}
use Rattle.ps_parser.specs.declared.expression.Sum.{Sum}
use Rattle.ps_parser.specs.declared.expression.Factor.TheViews.{out-Products, out-Sum}
use Rattle.ps_parser.specs.Tree.{FactorTree, ProductTree, product_of, sum_of}
use Rattle.ps_parser.specs.SumView.{factor_tree, product_tree, sum_tree}
use Rattle.ps_resolve.specs.Literals.{literal_in_product, literal_of}
use Rattle.ps_resolve.proofs.Trees.{product_tree-items, sum_tree-items}

many_factors : (fs : List FactorTree) → 2 ≤ length fs → literal_in_product (product_of fs) ≡ None
many_factors [] h = absurd (omega arith)
many_factors (f ∷ []) h = absurd (omega arith)
many_factors (f ∷ g ∷ fs) h = refl

many_products : (ps : List ProductTree) → 2 ≤ length ps → literal_of (sum_of ps) ≡ None
many_products [] h = absurd (omega arith)
many_products (p ∷ []) h = absurd (omega arith)
many_products (p ∷ q ∷ ps) h = refl

pub product_of_many : (p : Product) (fs : List code.Factor) → fs ≡ p.factors.items.items → 2 ≤ length fs → None ≡ literal_in_product (product_tree p)
product_of_many p fs is h =
    sym (ap literal_in_product (product_tree-items p ∙ ap (λ l. product_of (map factor_tree l)) (sym is))
    ∙ many_factors (map factor_tree fs) (subst (λ n. 2 ≤ n) (sym (length-map fs factor_tree)) h))

pub sum_of_many : (s : Sum) (ps : List Product) → ps ≡ (out-Products (out-Sum s).products).items.items → 2 ≤ length ps → None ≡ literal_of (sum_tree s)
sum_of_many s ps is h =
    sym (ap literal_of (sum_tree-items s ∙ ap (λ l. sum_of (map product_tree l)) (sym is))
    ∙ many_products (map product_tree ps) (subst (λ n. 2 ≤ n) (sym (length-map ps product_tree)) h))
