-- Counts of nodes and of signals, part by part.
use Rattle.std.proofs.Common.{◌≡◌, ℕ, suc, ◌+◌, List, [], ◌∷◌, length, map, cond, min, refl, sym, ap, ◌∙◌, arith}
use Rattle.std.specs.Prelude.{sum_by}
use Rattle.std.proofs.lemmas.Bool.Decides.{nat_tests}
use Rattle.std.proofs.lemmas.List.Sums.{sum_by-cons}
use Rattle.ps_parser.specs.declared.expression.Factor as code
use Rattle.ps_parser.specs.declared.expression.Product.{Product}
use Rattle.ps_parser.specs.declared.expression.Sum.{Sum}
use Rattle.ps_parser.specs.declared.expression.Factor.TheViews.{out-Products, out-Sum}
use Rattle.ps_parser.specs.Tree.{product_of, sum_of}
use Rattle.ps_parser.specs.SumView.{factor_tree, product_tree, sum_tree}
use Rattle.ps_names.specs.declared.entry.Entry.{Entry}
use Rattle.ps_names.specs.declared.entry.Sort.{Sort}
use Rattle.ps_names.specs.declared.entry.Sort.TheVariants.{InputSignal, OutputSignal, LocalSignal, Instance, Nothing}
use Rattle.ps_names.specs.Names.{is_input, is_output, is_local}
use Rattle.ps_names.specs.Limits.{factor_nodes, product_nodes, nodes_of_factors, sum_nodes, nodes_of_products, outputs_of, signals}
use Rattle.ps_resolve.specs.Counting.{extra_of, signals_of}
use Rattle.ps_resolve.proofs.Trees.{product_tree-items, sum_tree-items}

factors_sum : (fs : List code.Factor) → nodes_of_factors (product_of (map factor_tree fs)) ≡ sum_by (λ f. factor_nodes (factor_tree f)) fs
factors_sum [] = refl
factors_sum (f ∷ fs) = ap (λ n. factor_nodes (factor_tree f) + n) (factors_sum fs) ∙ sym (sum_by-cons (λ f. factor_nodes (factor_tree f)) f fs)

products_sum : (ps : List Product) → nodes_of_products (sum_of (map product_tree ps)) ≡ sum_by (λ p. product_nodes (product_tree p)) ps
products_sum [] = refl
products_sum (p ∷ ps) = ap (λ n. product_nodes (product_tree p) + n) (products_sum ps) ∙ sym (sum_by-cons (λ p. product_nodes (product_tree p)) p ps)

extra_more : (n : ℕ) → extra_of (suc (suc n)) ≡ 1
extra_more n = grind (arith, nat_tests)

joined_factors : (fs : List code.Factor) → product_nodes (product_of (map factor_tree fs)) ≡ extra_of (length fs) + sum_by (λ f. factor_nodes (factor_tree f)) fs
joined_factors [] = refl
joined_factors (f ∷ []) = omega (arith, sum_by-cons (λ f. factor_nodes (factor_tree f)) f [])
joined_factors (f ∷ g ∷ fs) =
    let rest = factors_sum (g ∷ fs) in let all = sum_by-cons (λ f. factor_nodes (factor_tree f)) f (g ∷ fs) in let one = extra_more (length fs) in omega arith

joined_products : (ps : List Product) → sum_nodes (sum_of (map product_tree ps)) ≡ extra_of (length ps) + sum_by (λ p. product_nodes (product_tree p)) ps
joined_products [] = refl
joined_products (p ∷ []) = omega (arith, sum_by-cons (λ p. product_nodes (product_tree p)) p [])
joined_products (p ∷ q ∷ ps) =
    let rest = products_sum (q ∷ ps) in let all = sum_by-cons (λ p. product_nodes (product_tree p)) p (q ∷ ps) in let one = extra_more (length ps) in omega arith

pub product_count : (p : Product) → product_nodes (product_tree p) ≡ extra_of (length p.factors.items.items) + sum_by (λ f. factor_nodes (factor_tree f)) p.factors.items.items
product_count p = ap product_nodes (product_tree-items p) ∙ joined_factors p.factors.items.items

pub sum_count : (s : Sum) → sum_nodes (sum_tree s) ≡ extra_of (length (out-Products (out-Sum s).products).items.items) + sum_by (λ p. product_nodes (product_tree p)) (out-Products (out-Sum s).products).items.items
sum_count s = ap sum_nodes (sum_tree-items s) ∙ joined_products (out-Products (out-Sum s).products).items.items

sort_signals : (s : Sort) → signals_of s ≡ cond (is_input s) 1 0 + cond (is_output s) 1 0 + cond (is_local s) 1 0 + outputs_of s
sort_signals (InputSignal t) = refl
sort_signals (OutputSignal t) = refl
sort_signals (LocalSignal t) = refl
sort_signals (Instance kind) = omega arith
sort_signals Nothing = refl

pub signals_sum : (es : List Entry) → sum_by (λ e. signals_of e.sort) es ≡ signals es
signals_sum [] = refl
signals_sum (e ∷ es) =
    let here = sort_signals e.sort in let later = signals_sum es in
    let a = sum_by-cons (λ e. signals_of e.sort) e es in
    let b = sum_by-cons (λ (e : Entry). cond (is_input e.sort) 1 0) e es in
    let c = sum_by-cons (λ (e : Entry). cond (is_output e.sort) 1 0) e es in
    let d = sum_by-cons (λ (e : Entry). cond (is_local e.sort) 1 0) e es in
    let f = sum_by-cons (λ (e : Entry). outputs_of e.sort) e es in
    omega arith

-- the parts that are joined, and then each part
pub all_counted : (start join count parts extra all cap : ℕ) → join ≡ min (start + extra) cap → count ≡ min (join + parts) cap → all ≡ extra + parts → count ≡ min (start + all) cap
all_counted start join count parts extra all cap first rest whole = omega arith
