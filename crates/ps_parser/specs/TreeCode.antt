-- The code of a sum, by which a proof tells sums apart.
use Rattle.std.specs.Prelude.{◌≡◌, ℕ, List, refl}
use Rattle.std.specs.Coded.{code_by, coded×, coded_ℕ, coded_bool, coded_list}
use Rattle.std.proofs.Common.{ap}
use base.Stored.{Coded, Gv, gnil, gnum, gcons}
use Rattle.ps_base.specs.declared.failing.Place.{Place}
use Rattle.ps_parser.specs.declared.name.Name.{Name}
use Rattle.ps_parser.specs.Tree.{FactorTree, Signal, Pin, Literal, Time, Group, ProductTree, no_factor, factor, SumTree}
use Rattle.ps_parser.specs.Tree.{no_product, product}

-- a place as two numbers
abbrev pub place_code : Coded Place
place_code = code_by (ℕ × ℕ) (coded× coded_ℕ coded_ℕ) (λ p. (p.line, p.column)) (λ p. record { line = p.0; column = p.1 }) (λ _. refl)

-- a name as its bytes and its place
abbrev pub name_code : Coded Name
name_code = code_by (List ℕ × Place) (coded× (coded_list coded_ℕ) place_code) (λ n. (n.text, n.place)) (λ n. record { text = n.0; place = n.1 }) (λ _. refl)

-- the code of each tree: a number for its kind, and the codes of what it holds
abbrev mutual
  pub factor_stored : FactorTree → Gv
  factor_stored (Signal n) = gcons (gnum 0) (name_code.code n)
  factor_stored (Pin n q) = gcons (gnum 1) (gcons (name_code.code n) (name_code.code q))
  factor_stored (Literal b p) = gcons (gnum 2) (gcons (coded_bool.code b) (place_code.code p))
  factor_stored (Time t p) = gcons (gnum 3) (gcons (gnum t) (place_code.code p))
  factor_stored (Group s) = gcons (gnum 4) (sum_stored s)

  pub product_stored : ProductTree → Gv
  product_stored no_factor = gnil
  product_stored (factor f fs) = gcons (factor_stored f) (product_stored fs)

  pub sum_stored : SumTree → Gv
  sum_stored no_product = gnil
  sum_stored (product p ps) = gcons (product_stored p) (sum_stored ps)

-- trees with one code are equal
mutual
  pub factor_inj : (a b : FactorTree) → factor_stored a ≡ factor_stored b → a ≡ b
  factor_inj (Signal n) (Signal m) e = ap Signal (name_code.inj n m (cc))
  factor_inj (Signal n) (Pin m q) e = cc
  factor_inj (Signal n) (Literal b p) e = cc
  factor_inj (Signal n) (Time t p) e = cc
  factor_inj (Signal n) (Group s) e = cc
  factor_inj (Pin n q) (Signal m) e = cc
  factor_inj (Pin n q) (Pin m r) e =
      let first : n ≡ m = name_code.inj n m (cc) in
      let second : q ≡ r = name_code.inj q r (cc) in
      cc
  factor_inj (Pin n q) (Literal b p) e = cc
  factor_inj (Pin n q) (Time t p) e = cc
  factor_inj (Pin n q) (Group s) e = cc
  factor_inj (Literal b p) (Signal m) e = cc
  factor_inj (Literal b p) (Pin m q) e = cc
  factor_inj (Literal b p) (Literal c q) e =
      let first : b ≡ c = coded_bool.inj b c (cc) in
      let second : p ≡ q = place_code.inj p q (cc) in
      cc
  factor_inj (Literal b p) (Time t q) e = cc
  factor_inj (Literal b p) (Group s) e = cc
  factor_inj (Time t p) (Signal m) e = cc
  factor_inj (Time t p) (Pin m q) e = cc
  factor_inj (Time t p) (Literal b q) e = cc
  factor_inj (Time t p) (Time u q) e =
      let first : t ≡ u = cc in
      let second : p ≡ q = place_code.inj p q (cc) in
      cc
  factor_inj (Time t p) (Group s) e = cc
  factor_inj (Group s) (Signal m) e = cc
  factor_inj (Group s) (Pin m q) e = cc
  factor_inj (Group s) (Literal b p) e = cc
  factor_inj (Group s) (Time t p) e = cc
  factor_inj (Group s) (Group r) e = ap Group (sum_inj s r (cc))

  pub product_inj : (a b : ProductTree) → product_stored a ≡ product_stored b → a ≡ b
  product_inj no_factor no_factor e = refl
  product_inj no_factor (factor g gs) e = cc
  product_inj (factor f fs) no_factor e = cc
  product_inj (factor f fs) (factor g gs) e =
      let first : f ≡ g = factor_inj f g (cc) in
      let rest : fs ≡ gs = product_inj fs gs (cc) in
      cc

  pub sum_inj : (a b : SumTree) → sum_stored a ≡ sum_stored b → a ≡ b
  sum_inj no_product no_product e = refl
  sum_inj no_product (product q qs) e = cc
  sum_inj (product p ps) no_product e = cc
  sum_inj (product p ps) (product q qs) e =
      let first : p ≡ q = product_inj p q (cc) in
      let rest : ps ≡ qs = sum_inj ps qs (cc) in
      cc

-- sums with one code are equal
abbrev pub sum_code : Coded SumTree
sum_code = record { code = sum_stored; inj = sum_inj }
