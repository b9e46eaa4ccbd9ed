-- The tree of each value that the program makes or opens.
use Rattle.std.proofs.Common.{◌≡◌, ℕ, ◌<◌, Bool, List, length, map, Some, slice_get, slice_index_or, sym, ap, ◌∙◌, subst, option_map}
use Rattle.std.proofs.lemmas.List.{length-map}
use Rattle.std.proofs.lemmas.Option.{slice_get-map, slice_get-get_or}
use Rattle.ps_base.specs.declared.failing.Place.{Place}
use Rattle.ps_parser.specs.declared.name.Name.{Name}
use Rattle.ps_parser.specs.declared.expression.Factor as code
use Rattle.ps_parser.specs.declared.expression.Factor.TheVariants as variant
use Rattle.ps_parser.specs.declared.expression.Factor.TheOpen.{Factor-F, Product-F, Sum-F}
use Rattle.ps_parser.specs.declared.expression.Factor.TheViews.{roll-Product, roll-Sum, out-Products, out-Sum}
use Rattle.ps_parser.specs.declared.expression.Factor.TheFolds.{fold-roll-Factor, fold-roll-Product, fold-roll-Sum, fold_out-Factors, fold_out-Product, fold_out-Products, fold_out-Sum}
use Rattle.ps_parser.specs.declared.expression.Factors.{Factors}
use Rattle.ps_parser.specs.declared.expression.Product.{Product}
use Rattle.ps_parser.specs.declared.expression.Products.{Products}
use Rattle.ps_parser.specs.declared.expression.Sum.{Sum}
use Rattle.ps_parser.specs.Tree.{FactorTree, Signal, Pin, Literal, Time, Group, ProductTree, SumTree, product_of, sum_of}
use Rattle.ps_parser.specs.SumView.{factor_tree, factor_trees, product_tree, product_trees, sum_tree, factor_step, factors_step, product_step, products_step, sum_step}

pub factor_tree-Name : (n : Name) → factor_tree (variant.Name n) ≡ Signal n
factor_tree-Name n = ap factor_tree (sym (variant.rolls-Name n)) ∙ fold-roll-Factor FactorTree (List FactorTree) ProductTree (List ProductTree) SumTree factor_step factors_step product_step products_step sum_step (Factor-F.Name n)

pub factor_tree-Pin : (n q : Name) → factor_tree (variant.Pin n q) ≡ Pin n q
factor_tree-Pin n q = ap factor_tree (sym (variant.rolls-Pin n q)) ∙ fold-roll-Factor FactorTree (List FactorTree) ProductTree (List ProductTree) SumTree factor_step factors_step product_step products_step sum_step (Factor-F.Pin n q)

pub factor_tree-Lit : (b : Bool) (p : Place) → factor_tree (variant.Lit b p) ≡ Literal b p
factor_tree-Lit b p = ap factor_tree (sym (variant.rolls-Lit b p)) ∙ fold-roll-Factor FactorTree (List FactorTree) ProductTree (List ProductTree) SumTree factor_step factors_step product_step products_step sum_step (Factor-F.Lit b p)

pub factor_tree-Time : (t : ℕ) (p : Place) → factor_tree (variant.Time t p) ≡ Time t p
factor_tree-Time t p = ap factor_tree (sym (variant.rolls-Time t p)) ∙ fold-roll-Factor FactorTree (List FactorTree) ProductTree (List ProductTree) SumTree factor_step factors_step product_step products_step sum_step (Factor-F.Time t p)

pub factor_tree-Group : (s : Sum) → factor_tree (variant.Group s) ≡ Group (sum_tree s)
factor_tree-Group s = ap factor_tree (sym (variant.rolls-Group s)) ∙ fold-roll-Factor FactorTree (List FactorTree) ProductTree (List ProductTree) SumTree factor_step factors_step product_step products_step sum_step (Factor-F.Group s)

pub factor_trees-items : (f : Factors) → factor_trees f ≡ map factor_tree f.items.items
factor_trees-items f = fold_out-Factors FactorTree (List FactorTree) ProductTree (List ProductTree) SumTree factor_step factors_step product_step products_step sum_step f

pub product_tree-factors : (p : Product) → product_tree p ≡ product_of (factor_trees p.factors)
product_tree-factors p = fold_out-Product FactorTree (List FactorTree) ProductTree (List ProductTree) SumTree factor_step factors_step product_step products_step sum_step p

pub product_trees-items : (p : Products) → product_trees p ≡ map product_tree (out-Products p).items.items
product_trees-items p = fold_out-Products FactorTree (List FactorTree) ProductTree (List ProductTree) SumTree factor_step factors_step product_step products_step sum_step p

pub sum_tree-products : (s : Sum) → sum_tree s ≡ sum_of (product_trees (out-Sum s).products)
sum_tree-products s = fold_out-Sum FactorTree (List FactorTree) ProductTree (List ProductTree) SumTree factor_step factors_step product_step products_step sum_step s

-- an item of a list, as an item of the list of trees
pub tree_at : {A B : Type 0} (v : A → B) (xs : List A) (k : ℕ) (x : A) → k < length (map v xs) → x ≡ slice_index_or xs k x → slice_get (map v xs) k ≡ Some (v x)
tree_at v xs k x below is =
    let within : k < length xs = subst (λ n. k < n) (length-map xs v) below in
    slice_get-map v xs k ∙ ap (option_map v) (slice_get-get_or xs k x within ∙ ap Some (sym is))

pub product_tree-roll : (p : Product-F code.Factor Factors Product Products Sum) → product_tree (roll-Product p) ≡ product_of (factor_trees p.factors)
product_tree-roll p = fold-roll-Product FactorTree (List FactorTree) ProductTree (List ProductTree) SumTree factor_step factors_step product_step products_step sum_step p

pub sum_tree-roll : (s : Sum-F code.Factor Factors Product Products Sum) → sum_tree (roll-Sum s) ≡ sum_of (product_trees s.products)
sum_tree-roll s = fold-roll-Sum FactorTree (List FactorTree) ProductTree (List ProductTree) SumTree factor_step factors_step product_step products_step sum_step s
