-- The value of a sum by names is that of its formula by numbers, where no rule is broken in it.
use Rattle.std.proofs.Common.{◌≡◌, ℕ, zero, suc, ◌+◌, Bool, true, false, ◌||◌, ◌&&◌, List, [], ◌∷◌, ◌++◌, Option, None, Some, map, get_or, refl, sym, ◌∙◌}
use Rattle.std.specs.List.{flat_map, find}
use Rattle.std.proofs.lemmas.Grind.{flat_map-append}
use Rattle.ps_base.specs.LetterCase.{is_same_name}
use Rattle.ps_model.specs.declared.kind.Kind.{Kind}
use Rattle.ps_model.specs.declared.kind.Ty.{Ty}
use Rattle.ps_model.specs.declared.kind.Ty.TheVariants as ty
use Rattle.ps_model.specs.Blocks as blocks
use Rattle.ps_model.specs.Blocks.{block, moved}
use Rattle.ps_model.specs.Formula.{Formula, Formulas, no_operand, operand, value, all_true, any_true}
use Rattle.ps_model.specs.Action.{Actual, free, literal, wired}
use Rattle.ps_model.specs.Scanning.{pin_at, pin_value, pins_under, time_value, times_at, limit_of}
use Rattle.ps_parser.specs.declared.name.Name.{Name}
use Rattle.ps_parser.specs.Tree.{FactorTree, Signal, Pin, Literal, Time, Group, ProductTree, no_factor, factor, SumTree, no_product, product, ArgumentTree}
use Rattle.ps_names.specs.declared.entry.Entry.{Entry}
use Rattle.ps_names.specs.Names.{sort_of}
use Rattle.ps_names.specs.Uses.{Use, gives, factor_uses, product_uses, sum_uses, value_uses, argument_uses}
use Rattle.ps_names.specs.Rules.{broken_by, at_read, at_read_pin}
use Rattle.ps_names.specs.Stands as stands
use Rattle.ps_names.specs.Stands.{number, pin_number, all_joined, any_joined, factor_formula, factor_formulas, product_formulas, sum_formula}
use Rattle.ps_names.proofs.Distinct.{none_left, none_right}
use Rattle.ps_names.proofs.Lists.{found_at}
use Rattle.ps_names.proofs.Unbroken.{none_inside}
use Rattle.ps_language_laws.specs.Reading.{Reading, factor_value, product_value, sum_value}
use Rattle.ps_language_laws.specs.Equations.{actual_of, given, actuals}

module _ (v : ℕ → Bool) where
  all_are : (es : Formulas) → value v (all_joined es) ≡ all_true v es
  all_are no_operand = refl
  all_are (operand e no_operand) = by (value v e)
    where
      by : (b : Bool) → b ≡ (b && true)
      by true = refl
      by false = refl
  all_are (operand e (operand f es)) = refl

  any_are : (es : Formulas) → value v (any_joined es) ≡ any_true v es
  any_are no_operand = refl
  any_are (operand e no_operand) = by (value v e)
    where
      by : (b : Bool) → b ≡ (b || false)
      by true = refl
      by false = refl
  any_are (operand e (operand f es)) = refl

module _ (es : List Entry) (reading : Reading) (v : ℕ → Bool)
    (signals : (n : Name) → at_read n (sort_of es n) ≡ [] → reading.signal n ≡ v (number es n))
    (pins : (n q : Name) → at_read_pin n q (sort_of es n) ≡ [] → reading.output n q ≡ v (pin_number es n q)) where
  abbrev Fine : List Use → Type 0
  Fine us = flat_map (broken_by es) us ≡ []

  front : (us ws : List Use) → Fine (us ++ ws) → Fine us
  front us ws h = none_left _ (flat_map (broken_by es) ws) (sym (flat_map-append (broken_by es) us ws) ∙ h)

  back : (us ws : List Use) → Fine (us ++ ws) → Fine ws
  back us ws h = none_right (flat_map (broken_by es) us) _ (sym (flat_map-append (broken_by es) us ws) ∙ h)

  mutual
    factor_is : (f : FactorTree) → Fine (factor_uses f) → factor_value reading f ≡ value v (factor_formula es f)
    factor_is (Signal n) h = signals n (none_left _ [] h)
    factor_is (Pin n q) h = pins n q (none_left _ [] h)
    factor_is (Literal b p) h = cc
    factor_is (Time t p) h = cc
    factor_is (Group s) h = sum_are s h ∙ sym (any_are v (product_formulas es s))

    product_is : (p : ProductTree) → Fine (product_uses p) → product_value reading p ≡ all_true v (factor_formulas es p)
    product_is no_factor h = refl
    product_is (factor f fs) h = (λ i. factor_is f (front (factor_uses f) (product_uses fs) h) i && product_is fs (back (factor_uses f) (product_uses fs) h) i)

    sum_are : (s : SumTree) → Fine (sum_uses s) → sum_value reading s ≡ any_true v (product_formulas es s)
    sum_are no_product h = refl
    sum_are (product p ps) h =
        (λ i. (product_is p (front (product_uses p) (sum_uses ps) h) ∙ sym (all_are v (factor_formulas es p))) i || sum_are ps (back (product_uses p) (sum_uses ps) h) i)

  -- the value of a sum
  pub sum_is : (s : SumTree) → Fine (sum_uses s) → sum_value reading s ≡ value v (sum_formula es s)
  sum_is s h = sum_are s h ∙ sym (any_are v (product_formulas es s))

  -- ---- arguments

  -- what stands at a pin has one value and one time, by names and by numbers
  record IsAlike (a b : Actual) : Type 0 where
    pin : (default : Bool) → pin_value (λ _. false) default a ≡ pin_value v default b
    duration : (t : Ty) → time_value t a ≡ time_value t b

  no_time : (t : Ty) (b : Bool) (e : Formula) → time_value t (literal b) ≡ time_value t (wired e)
  no_time ty.Safe b e = refl
  no_time ty.Bool b e = refl
  no_time ty.Time b e = refl

  no_time_either : (t : Ty) (b c : Bool) → time_value t (literal b) ≡ time_value t (literal c)
  no_time_either ty.Safe b c = refl
  no_time_either ty.Bool b c = refl
  no_time_either ty.Time b c = refl

  valued : (s : SumTree) → Fine (sum_uses s) → IsAlike (literal (sum_value reading s)) (wired (sum_formula es s))
  valued s h = record { pin = λ default. sum_is s h; duration = λ t. no_time t (sum_value reading s) (sum_formula es s) }

  alone : (b : Bool) → ((b && true) || false) ≡ b
  alone true = refl
  alone false = refl

  actual_is : (s : SumTree) → Fine (value_uses s) → IsAlike (actual_of reading s) (stands.actual_of es s)
  actual_is (product (factor (Literal b p) no_factor) no_product) h = record { pin = λ default. alone b; duration = λ t. no_time_either t ((b && true) || false) b }
  actual_is (product (factor (Time t p) no_factor) no_product) h = record { pin = λ default. refl; duration = λ u. refl }
  actual_is s h = valued s h

  module _ (n : Name) (args : List ArgumentTree) (fine : Fine (flat_map (argument_uses n) args)) where
    found_is : (pin : List ℕ) (o : Option ArgumentTree) → find (λ a. is_same_name a.pin.text pin) args ≡ o → IsAlike (given reading o) (stands.given es o)
    found_is pin None found = record { pin = λ default. refl; duration = λ t. refl }
    found_is pin (Some a) found =
        let r = found_at (λ a. is_same_name a.pin.text pin) args a found in
        actual_is a.value (none_right (broken_by es (gives n a.pin)) _ (none_inside (broken_by es) (argument_uses n) args r.0 a fine r.1))

    abbrev by_names : blocks.Pin → Actual
    by_names p = given reading (find (λ a. is_same_name a.pin.text p.name) args)

    abbrev by_numbers : blocks.Pin → Actual
    by_numbers p = stands.given es (find (λ a. is_same_name a.pin.text p.name) args)

    one_is : (p : blocks.Pin) → IsAlike (by_names p) (by_numbers p)
    one_is p = found_is p.name (find (λ a. is_same_name a.pin.text p.name) args) refl

    pins_are : (default : Bool) (ps : List blocks.Pin) (j : ℕ) → pin_value (λ _. false) default (get_or (map by_names ps) j free) ≡ pin_value v default (get_or (map by_numbers ps) j free)
    pins_are default [] j = refl
    pins_are default (p ∷ ps) zero = (one_is p).pin default
    pins_are default (p ∷ ps) (suc j) = pins_are default ps j

    times_are : (ps qs : List blocks.Pin) → times_at ps (map by_names qs) ≡ times_at ps (map by_numbers qs)
    times_are [] qs = refl
    times_are (p ∷ ps) [] = refl
    times_are (p ∷ ps) (q ∷ qs) = (λ i. (one_is q).duration p.ty i + times_are ps qs i)

    -- an instance moves alike
    pub moved_alike : (kind : Kind) (dt : ℕ) (s : blocks.Block_state) →
        moved kind (limit_of kind (actuals reading kind args)) (pins_under (λ _. false) kind (actuals reading kind args)) dt s
        ≡ moved kind (limit_of kind (stands.actuals es kind args)) (pins_under v kind (stands.actuals es kind args)) dt s
    moved_alike kind dt s = (λ i. moved kind ((block kind).fixed_limit + times_are (block kind).inputs (block kind).inputs i) (λ j. pins_are (pin_at kind j).free (block kind).inputs j i) dt s)
