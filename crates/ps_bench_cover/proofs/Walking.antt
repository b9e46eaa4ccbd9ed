-- The operands of trees, by their items.
use Rattle.std.proofs.Common.{◌≡◌, ◌<◌, ◌≤◌, ◌+◌, ℕ, zero, suc, Result, Ok, Err, List, [], ◌∷◌, ◌++◌, Some, length, map, take, drop, get_or, slice_get, refl, sym, ap, ◌∙◌, append_assoc, append-nil, arith, true, false, cond}
use Rattle.std.specs.List.{find, flat_map}
use Rattle.std.specs.Prelude.{OnOk}
use Rattle.std.proofs.lemmas.List.{map-append, take_all}
use Rattle.ps_base.specs.LetterCase.{is_same_name}
use Rattle.ps_base.specs.declared.failing.Place.{Place}
use Rattle.ps_model.specs.Blocks.{Pin}
use Rattle.ps_parser.specs.ArgumentView.{argument_tree}
use Rattle.ps_parser.specs.SumView.{factor_tree, factor_trees, product_tree, product_trees, sum_tree}
use Rattle.ps_parser.specs.Tree.{FactorTree, ProductTree, factors, products, product_of, sum_of}
use Rattle.ps_parser.specs.declared.expression.Factor as code
use Rattle.ps_parser.specs.declared.expression.Product as code_product
use Rattle.ps_parser.specs.declared.expression.Sum as code_sum
use Rattle.ps_parser.specs.declared.expression.Factor.TheViews.{out-Products, out-Sum}
use Rattle.ps_parser.proofs.Views.{factor_trees-items, product_tree-factors, product_trees-items, sum_tree-products}
use Rattle.ps_parser.specs.declared.statement.Argument.{Argument}
use Rattle.ps_bench_cover.specs.Operands.{Operand, given_operands, joined, pin_operands, place_of, product_operands, sum_operands}
use Rattle.ps_bench_cover.specs.Operands.{of_and, of_or, own_factors, own_products, within_factor, within_factors, within_products}

-- what stands in a product, and in a sum
pub factors_back : (fs : List FactorTree) → factors (product_of fs) ≡ fs
factors_back [] = refl
factors_back (f ∷ fs) = ap (λ gs. f ∷ gs) (factors_back fs)

pub products_back : (ps : List ProductTree) → products (sum_of ps) ≡ ps
products_back [] = refl
products_back (p ∷ ps) = ap (λ qs. p ∷ qs) (products_back ps)

-- what stands alone is joined by nothing
pub joined_few : {X : Type 0} (xs : List X) → length xs < 2 → joined xs ≡ []
joined_few [] few = refl
joined_few (x ∷ []) few = refl
joined_few (x ∷ y ∷ zs) few = absurd (omega arith)

pub joined_many : {X : Type 0} (xs : List X) → 1 < length xs → joined xs ≡ xs
joined_many [] many = absurd (omega arith)
joined_many (x ∷ []) many = absurd (omega arith)
joined_many (x ∷ y ∷ zs) many = refl

-- the operands within factors, and within products
pub factors_within : (fs : List code.Factor) →
    flat_map (λ f. map place_of (within_factor (factor_tree f))) fs ≡ map place_of (within_factors (product_of (map factor_tree fs)))
factors_within [] = refl
factors_within (f ∷ fs) =
    ap (λ ps. map place_of (within_factor (factor_tree f)) ++ ps) (factors_within fs)
    ∙ sym (map-append place_of (within_factor (factor_tree f)) (within_factors (product_of (map factor_tree fs))))

pub products_within : (ps : List code_product.Product) →
    flat_map (λ p. map place_of (product_operands (product_tree p))) ps ≡ map place_of (within_products (sum_of (map product_tree ps)))
products_within [] = refl
products_within (p ∷ ps) =
    ap (λ qs. map place_of (product_operands (product_tree p)) ++ qs) (products_within ps)
    ∙ sym (map-append place_of (product_operands (product_tree p)) (within_products (sum_of (map product_tree ps))))

-- two pieces after a first one
two_behind : (a own within all : List Place) (b c : List Place) → b ≡ a ++ own → c ≡ b ++ within → all ≡ own ++ within → c ≡ a ++ all
two_behind a own within all b c first second is =
    second ∙ ap (λ ps. ps ++ within) first ∙ append_assoc a own within ∙ ap (λ ps. a ++ ps) (sym is)

-- what was listed of a product, and of a sum
pub product_listed : (p : code_product.Product) (items : List code.Factor) (i : ℕ) (a b c : List Place) → items ≡ p.factors.items.items → length items ≤ i →
    b ≡ a ++ map place_of (map of_and (joined (factor_trees p.factors))) →
    c ≡ b ++ flat_map (λ f. map place_of (within_factor (factor_tree f))) (take i items) → c ≡ a ++ map place_of (product_operands (product_tree p))
product_listed p items i a b c are all first second =
    let own : own_factors (product_tree p) ≡ map of_and (joined (factor_trees p.factors)) =
    ap own_factors (product_tree-factors p) ∙ ap (λ xs. map of_and (joined xs)) (factors_back (factor_trees p.factors)) in
    let within : map place_of (within_factors (product_tree p)) ≡ flat_map (λ f. map place_of (within_factor (factor_tree f))) (take i items) =
    ap (λ t. map place_of (within_factors t)) (product_tree-factors p ∙ ap product_of (factor_trees-items p.factors))
    ∙ sym (factors_within p.factors.items.items)
    ∙ ap (flat_map (λ f. map place_of (within_factor (factor_tree f)))) (sym are ∙ sym (take_all i items all)) in
    two_behind a (map place_of (map of_and (joined (factor_trees p.factors)))) _ (map place_of (product_operands (product_tree p))) b c first second
    (map-append place_of (own_factors (product_tree p)) (within_factors (product_tree p)) ∙ (λ k. map place_of (own k) ++ within k))

pub sum_listed : (s : code_sum.Sum) (items : List code_product.Product) (i : ℕ) (a b c : List Place) → items ≡ (out-Products (out-Sum s).products).items.items → length items ≤ i →
    b ≡ a ++ map place_of (map of_or (joined (product_trees (out-Sum s).products))) →
    c ≡ b ++ flat_map (λ p. map place_of (product_operands (product_tree p))) (take i items) → c ≡ a ++ map place_of (sum_operands (sum_tree s))
sum_listed s items i a b c are all first second =
    let products = (out-Sum s).products in
    let own : own_products (sum_tree s) ≡ map of_or (joined (product_trees products)) =
    ap own_products (sum_tree-products s) ∙ ap (λ xs. map of_or (joined xs)) (products_back (product_trees products)) in
    let within : map place_of (within_products (sum_tree s)) ≡ flat_map (λ p. map place_of (product_operands (product_tree p))) (take i items) =
    ap (λ t. map place_of (within_products t)) (sum_tree-products s ∙ ap sum_of (product_trees-items products))
    ∙ sym (products_within (out-Products products).items.items)
    ∙ ap (flat_map (λ p. map place_of (product_operands (product_tree p)))) (sym are ∙ sym (take_all i items all)) in
    two_behind a (map place_of (map of_or (joined (product_trees products)))) _ (map place_of (sum_operands (sum_tree s))) b c first second
    (map-append place_of (own_products (sum_tree s)) (within_products (sum_tree s)) ∙ (λ k. map place_of (own k) ++ within k))

-- where the last piece was put
pub carry : {A E P Q : Type 0} (r : Result A E) → (P → Q) → OnOk r P → OnOk r Q
carry (Ok v) f p = f p
carry (Err e) f p = tt

module _ (pin : List ℕ) where
  abbrev at_pin : List Argument → List Operand
  at_pin xs = pin_operands (map argument_tree xs) pin

  -- an argument of another pin is passed over
  other_suc : (xs : List Argument) (i : ℕ) (d : Argument) → i < length xs → is_same_name (get_or xs i d).pin.text pin ≡ false →
      at_pin (drop (suc i) xs) ≡ at_pin (drop i xs)
  other_suc [] i d h no_ = absurd (omega arith)
  other_suc (x ∷ xs) zero d h no_ =
      sym (ap (λ b. given_operands (cond b (Some (argument_tree x)) (find (λ a. is_same_name a.pin.text pin) (map argument_tree xs)))) no_)
  other_suc (x ∷ xs) (suc i) d h no_ = other_suc xs i d (omega arith) no_

  pub other_pin : (xs : List Argument) (i : ℕ) (d : Argument) → i < length xs → is_same_name (get_or xs i d).pin.text pin ≡ false →
      at_pin (drop (i + 1) xs) ≡ at_pin (drop i xs)
  other_pin xs i d h no_ =
      let on : i + 1 ≡ suc i = omega arith in
      ap (λ n. at_pin (drop n xs)) on ∙ other_suc xs i d h no_

  -- the argument of the pin is found
  pub this_pin : (xs : List Argument) (i : ℕ) (d : Argument) → i < length xs → is_same_name (get_or xs i d).pin.text pin ≡ true →
      at_pin (drop i xs) ≡ sum_operands (argument_tree (get_or xs i d)).value
  this_pin [] i d h yes_ = absurd (omega arith)
  this_pin (x ∷ xs) zero d h yes_ =
      ap (λ b. given_operands (cond b (Some (argument_tree x)) (find (λ a. is_same_name a.pin.text pin) (map argument_tree xs)))) yes_
  this_pin (x ∷ xs) (suc i) d h yes_ = this_pin xs i d (omega arith) yes_

  pub no_pin : (xs : List Argument) (i : ℕ) → length xs ≤ i → at_pin (drop i xs) ≡ []
  no_pin [] zero h = refl
  no_pin [] (suc i) h = refl
  no_pin (x ∷ xs) zero h = absurd (omega arith)
  no_pin (x ∷ xs) (suc i) h = no_pin xs i (omega arith)

-- one more pin
more_suc : {A : Type 0} (f : List ℕ → List A) (xs : List Pin) (j : ℕ) (name : List ℕ) → slice_get (map (λ (p : Pin). p.name) xs) j ≡ Some name →
    flat_map (λ (p : Pin). f p.name) (take (suc j) xs) ≡ flat_map (λ (p : Pin). f p.name) (take j xs) ++ f name
more_suc f [] j name at = cc
more_suc f (p ∷ xs) zero name at = let e : p.name ≡ name = cc in append-nil (f p.name) ∙ ap f e
more_suc f (p ∷ xs) (suc j) name at =
    ap (λ l. f p.name ++ l) (more_suc f xs j name at) ∙ sym (append_assoc (f p.name) (flat_map (λ (q : Pin). f q.name) (take j xs)) (f name))

pub more_pins : (f : List ℕ → List Operand) (xs : List Pin) (j : ℕ) (name : List ℕ) (first old new : List Place) →
    slice_get (map (λ (p : Pin). p.name) xs) j ≡ Some name →
    old ≡ first ++ map place_of (flat_map (λ (p : Pin). f p.name) (take j xs)) → new ≡ old ++ map place_of (f name) →
    new ≡ first ++ map place_of (flat_map (λ (p : Pin). f p.name) (take (j + 1) xs))
more_pins f xs j name first old new at so is =
    let on : j + 1 ≡ suc j = omega arith in
    let before = flat_map (λ (p : Pin). f p.name) (take j xs) in
    is ∙ ap (λ l. l ++ map place_of (f name)) so ∙ append_assoc first (map place_of before) (map place_of (f name))
    ∙ ap (λ l. first ++ l) (sym (map-append place_of before (f name)))
    ∙ ap (λ l. first ++ map place_of l) (sym (ap (λ n. flat_map (λ (p : Pin). f p.name) (take n xs)) on ∙ more_suc f xs j name at))
