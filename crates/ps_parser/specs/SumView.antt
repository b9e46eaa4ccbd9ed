-- The tree for which a sum of the program stands.
use Rattle.std.specs.Prelude.{List}
use Rattle.ps_parser.specs.declared.expression.Factor.TheOpen.{Factor-F, Factors-F, Product-F, Products-F, Sum-F}
use Rattle.ps_parser.specs.declared.expression.Factor.TheFolds.{fold-Factor, fold-Factors, fold-Product, fold-Products}
use Rattle.ps_parser.specs.declared.expression.Factor.TheFolds.{fold-Sum}
use Rattle.ps_parser.specs.declared.expression.Factor.{Factor}
use Rattle.ps_parser.specs.declared.expression.Factors.{Factors}
use Rattle.ps_parser.specs.declared.expression.Product.{Product}
use Rattle.ps_parser.specs.declared.expression.Products.{Products}
use Rattle.ps_parser.specs.declared.expression.Sum.{Sum}
use Rattle.ps_parser.specs.Tree.{FactorTree, Signal, Pin, Literal, Time, Group, ProductTree, SumTree, product_of}
use Rattle.ps_parser.specs.Tree.{sum_of}

-- one level, with what stands inside already seen
abbrev pub factor_step : Factor-F FactorTree (List FactorTree) ProductTree (List ProductTree) SumTree → FactorTree
factor_step (Factor-F.Name n) = Signal n
factor_step (Factor-F.Pin n q) = Pin n q
factor_step (Factor-F.Lit b p) = Literal b p
factor_step (Factor-F.Time t p) = Time t p
factor_step (Factor-F.Group s) = Group s

-- factors in order
abbrev pub factors_step : Factors-F FactorTree (List FactorTree) ProductTree (List ProductTree) SumTree → List FactorTree
factors_step f = f.items.items

-- the product of the factors
abbrev pub product_step : Product-F FactorTree (List FactorTree) ProductTree (List ProductTree) SumTree → ProductTree
product_step p = product_of p.factors

-- products in order
abbrev pub products_step : Products-F FactorTree (List FactorTree) ProductTree (List ProductTree) SumTree → List ProductTree
products_step p = p.items.items

-- the sum of the products
abbrev pub sum_step : Sum-F FactorTree (List FactorTree) ProductTree (List ProductTree) SumTree → SumTree
sum_step s = sum_of s.products

-- the tree of a factor
abbrev pub factor_tree : Factor → FactorTree
factor_tree = fold-Factor FactorTree (List FactorTree) ProductTree (List ProductTree) SumTree factor_step factors_step product_step products_step sum_step

-- the tree of a product
abbrev pub product_tree : Product → ProductTree
product_tree = fold-Product FactorTree (List FactorTree) ProductTree (List ProductTree) SumTree factor_step factors_step product_step products_step sum_step

-- the tree of a sum
abbrev pub sum_tree : Sum → SumTree
sum_tree = fold-Sum FactorTree (List FactorTree) ProductTree (List ProductTree) SumTree factor_step factors_step product_step products_step sum_step

-- the trees of a list of factors
abbrev pub factor_trees : Factors → List FactorTree
factor_trees = fold-Factors FactorTree (List FactorTree) ProductTree (List ProductTree) SumTree factor_step factors_step product_step products_step sum_step

-- the trees of a list of products
abbrev pub product_trees : Products → List ProductTree
product_trees = fold-Products FactorTree (List FactorTree) ProductTree (List ProductTree) SumTree factor_step factors_step product_step products_step sum_step
