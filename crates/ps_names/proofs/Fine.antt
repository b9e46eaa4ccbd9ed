-- Where no use is broken, the formula of each value is fine: its signals exist, each AND and OR has two or more operands,
-- its nodes are those that are counted on the source, and it is not nested too deep.
use Rattle.std.proofs.Common.{◌≡◌, ℕ, ◌+◌, ◌*◌, ◌<◌, ◌≤◌, List, [], ◌++◌, length, refl, sym, ap, ◌∙◌, arith, length-append}
use Rattle.std.specs.List.{flat_map}
use Rattle.std.proofs.lemmas.Grind.{flat_map-append}
use Rattle.ps_model.specs.Formula.{Formula, Formulas, all_of, any_of, no_operand, operand}
use Rattle.ps_model.specs.Values.{IsBelow, AreBelow, HasOperands, HaveOperands, depth, deepest, operand_count}
use Rattle.ps_model.specs.Nodes.{nodes, nodes_below}
use Rattle.ps_parser.specs.declared.name.Name.{Name}
use Rattle.ps_parser.specs.Tree.{FactorTree, Signal, Pin, Literal, Time, Group, ProductTree, no_factor, factor, SumTree, no_product, product}
use Rattle.ps_parser.specs.Whole.{FactorWhole, ProductWhole, MoreFactorsWhole, SumWhole, MoreProductsWhole, factor_nesting, product_nesting, sum_nesting}
use Rattle.ps_names.specs.declared.entry.Entry.{Entry}
use Rattle.ps_names.specs.Limits.{factor_nodes, product_nodes, nodes_of_factors, sum_nodes, nodes_of_products}
use Rattle.ps_names.specs.Uses.{factor_uses, product_uses, sum_uses}
use Rattle.ps_names.specs.Names.{sort_of}
use Rattle.ps_names.specs.Rules.{broken_by, at_read, at_read_pin}
use Rattle.ps_names.specs.Stands.{number, pin_number, all_joined, any_joined, factor_formula, factor_formulas, product_formula, product_formulas, sum_formula}
use Rattle.ps_names.proofs.Distinct.{none_left, none_right}

-- a formula, and operands, with so many nodes
pub record IsFine (limit : ℕ) (e : Formula) (count : ℕ) : Type 0 where
  pub below : IsBelow limit e
  pub full : HasOperands e
  pub nodes_are : length (nodes e) ≡ count

pub record AreFine (limit : ℕ) (es : Formulas) (count : ℕ) : Type 0 where
  pub below : AreBelow limit es
  pub full : HaveOperands es
  pub nodes_are : length (nodes_below es) ≡ count

one_more : (limit : ℕ) (e : Formula) (es : Formulas) (m n : ℕ) → IsFine limit e m → AreFine limit es n → AreFine limit (operand e es) (m + n)
one_more limit e es m n a b = record {
  below = (a.below, b.below);
  full = (a.full, b.full);
  nodes_are = length-append (nodes e) (nodes_below es) ∙ ap (λ k. k + length (nodes_below es)) a.nodes_are ∙ ap (λ k. m + k) b.nodes_are;
}

many_joined : (limit : ℕ) (e : Formula) (es : Formulas) (n : ℕ) → 1 ≤ operand_count es → AreFine limit (operand e es) n → IsFine limit (all_of (operand e es)) (1 + n)
many_joined limit e es n two a = record {
  below = a.below;
  full = (omega arith, a.full);
  nodes_are = (let k = a.nodes_are in omega arith);
}

many_chosen : (limit : ℕ) (e : Formula) (es : Formulas) (n : ℕ) → 1 ≤ operand_count es → AreFine limit (operand e es) n → IsFine limit (any_of (operand e es)) (1 + n)
many_chosen limit e es n two a = record {
  below = a.below;
  full = (omega arith, a.full);
  nodes_are = (let k = a.nodes_are in omega arith);
}

-- the parts of a list of uses that breaks nothing
first_part : (es : List Entry) (f : FactorTree) (fs : ProductTree) → flat_map (broken_by es) (factor_uses f ++ product_uses fs) ≡ [] → flat_map (broken_by es) (factor_uses f) ≡ []
first_part es f fs h = none_left _ (flat_map (broken_by es) (product_uses fs)) (sym (flat_map-append (broken_by es) (factor_uses f) (product_uses fs)) ∙ h)

other_parts : (es : List Entry) (f : FactorTree) (fs : ProductTree) → flat_map (broken_by es) (factor_uses f ++ product_uses fs) ≡ [] → flat_map (broken_by es) (product_uses fs) ≡ []
other_parts es f fs h = none_right (flat_map (broken_by es) (factor_uses f)) _ (sym (flat_map-append (broken_by es) (factor_uses f) (product_uses fs)) ∙ h)

first_product : (es : List Entry) (p : ProductTree) (ps : SumTree) → flat_map (broken_by es) (product_uses p ++ sum_uses ps) ≡ [] → flat_map (broken_by es) (product_uses p) ≡ []
first_product es p ps h = none_left _ (flat_map (broken_by es) (sum_uses ps)) (sym (flat_map-append (broken_by es) (product_uses p) (sum_uses ps)) ∙ h)

other_products : (es : List Entry) (p : ProductTree) (ps : SumTree) → flat_map (broken_by es) (product_uses p ++ sum_uses ps) ≡ [] → flat_map (broken_by es) (sum_uses ps) ≡ []
other_products es p ps h = none_right (flat_map (broken_by es) (product_uses p)) _ (sym (flat_map-append (broken_by es) (product_uses p) (sum_uses ps)) ∙ h)

module _ (IsNamed : List ℕ → Type 0) (es : List Entry) (limit : ℕ)
    (name_below : (n : Name) → at_read n (sort_of es n) ≡ [] → number es n < limit)
    (pin_below : (n q : Name) → at_read_pin n q (sort_of es n) ≡ [] → pin_number es n q < limit) where
  mutual
    pub factor_fine : (f : FactorTree) → FactorWhole IsNamed f → flat_map (broken_by es) (factor_uses f) ≡ [] → IsFine limit (factor_formula es f) (factor_nodes f)
    factor_fine (Signal n) w none = record { below = name_below n (none_left _ [] none); full = tt; nodes_are = refl }
    factor_fine (Pin n q) w none = record { below = pin_below n q (none_left _ [] none); full = tt; nodes_are = refl }
    factor_fine (Literal b p) w none = cc
    factor_fine (Time t p) w none = cc
    factor_fine (Group s) w none = sum_fine s w none

    pub product_fine : (p : ProductTree) → ProductWhole IsNamed p → flat_map (broken_by es) (product_uses p) ≡ [] → IsFine limit (product_formula es p) (product_nodes p)
    product_fine no_factor w none = absurd w
    product_fine (factor f no_factor) w none = factor_fine f w.0 (first_part es f no_factor none)
    product_fine (factor f (factor g gs)) w none =
        many_joined limit (factor_formula es f) (factor_formulas es (factor g gs)) _ (omega arith)
        (one_more limit (factor_formula es f) (factor_formulas es (factor g gs)) _ _
        (factor_fine f w.0 (first_part es f (factor g gs) none)) (factors_fine (factor g gs) w.1 (other_parts es f (factor g gs) none)))

    pub factors_fine : (fs : ProductTree) → MoreFactorsWhole IsNamed fs → flat_map (broken_by es) (product_uses fs) ≡ [] → AreFine limit (factor_formulas es fs) (nodes_of_factors fs)
    factors_fine no_factor w none = record { below = tt; full = tt; nodes_are = refl }
    factors_fine (factor f fs) w none =
        one_more limit (factor_formula es f) (factor_formulas es fs) _ _ (factor_fine f w.0 (first_part es f fs none)) (factors_fine fs w.1 (other_parts es f fs none))

    pub sum_fine : (s : SumTree) → SumWhole IsNamed s → flat_map (broken_by es) (sum_uses s) ≡ [] → IsFine limit (sum_formula es s) (sum_nodes s)
    sum_fine no_product w none = absurd w
    sum_fine (product p no_product) w none = product_fine p w.0 (first_product es p no_product none)
    sum_fine (product p (product q qs)) w none =
        many_chosen limit (product_formula es p) (product_formulas es (product q qs)) _ (omega arith)
        (one_more limit (product_formula es p) (product_formulas es (product q qs)) _ _
        (product_fine p w.0 (first_product es p (product q qs) none)) (products_fine (product q qs) w.1 (other_products es p (product q qs) none)))

    pub products_fine : (ps : SumTree) → MoreProductsWhole IsNamed ps → flat_map (broken_by es) (sum_uses ps) ≡ [] → AreFine limit (product_formulas es ps) (nodes_of_products ps)
    products_fine no_product w none = record { below = tt; full = tt; nodes_are = refl }
    products_fine (product p ps) w none =
        one_more limit (product_formula es p) (product_formulas es ps) _ _ (product_fine p w.0 (first_product es p ps none)) (products_fine ps w.1 (other_products es p ps none))

-- ---- depth: each level of groups brings at most one AND and one OR

all_depth : (es : Formulas) (n : ℕ) → deepest es ≤ n → depth (all_joined es) ≤ n + 1
all_depth no_operand n h = omega arith
all_depth (operand e no_operand) n h = omega arith
all_depth (operand e (operand f fs)) n h = omega arith

any_depth : (es : Formulas) (n : ℕ) → deepest es ≤ n → depth (any_joined es) ≤ n + 1
any_depth no_operand n h = omega arith
any_depth (operand e no_operand) n h = omega arith
any_depth (operand e (operand f fs)) n h = omega arith

module _ (es : List Entry) where
  mutual
    factor_depth : (f : FactorTree) → flat_map (broken_by es) (factor_uses f) ≡ [] → depth (factor_formula es f) ≤ 2 * factor_nesting f
    factor_depth (Signal n) none = omega arith
    factor_depth (Pin n q) none = omega arith
    factor_depth (Literal b p) none = cc
    factor_depth (Time t p) none = cc
    factor_depth (Group s) none = let h = any_depth (product_formulas es s) _ (products_depth s none) in omega arith

    factors_depth : (fs : ProductTree) → flat_map (broken_by es) (product_uses fs) ≡ [] → deepest (factor_formulas es fs) ≤ 2 * product_nesting fs
    factors_depth no_factor none = omega arith
    factors_depth (factor f fs) none = let a = factor_depth f (first_part es f fs none) in let b = factors_depth fs (other_parts es f fs none) in omega arith

    products_depth : (s : SumTree) → flat_map (broken_by es) (sum_uses s) ≡ [] → deepest (product_formulas es s) ≤ 2 * sum_nesting s + 1
    products_depth no_product none = omega arith
    products_depth (product p ps) none =
        let a = all_depth (factor_formulas es p) _ (factors_depth p (first_product es p ps none)) in let b = products_depth ps (other_products es p ps none) in omega arith

  pub sum_depth : (s : SumTree) → flat_map (broken_by es) (sum_uses s) ≡ [] → depth (sum_formula es s) ≤ 2 * sum_nesting s + 2
  sum_depth s none = let h = any_depth (product_formulas es s) _ (products_depth s none) in omega arith
