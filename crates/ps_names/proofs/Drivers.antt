-- Where no rule is broken, each output and each local that is read has a driver.
use Rattle.std.proofs.Common.{◌≡◌, ℕ, ◌+◌, ◌-◌, ◌<◌, ◌≤◌, Bool, true, false, ◌||◌, ◌==◌, ◌⊎◌, inl, inr, ⊎_elim, List, [], ◌∷◌, ◌++◌, Some, length, map, filter, take, slice_get, refl, sym, ap, subst, ◌∙◌, arith}
use Rattle.std.specs.Option.{option_map}
use Rattle.std.specs.List.{flat_map, list_any}
use Rattle.std.proofs.lemmas.Bool.{false≢true, cases_Bool, cases_lt, or_cases, or_parts}
use Rattle.std.proofs.lemmas.Bool.Decides.{nat_tests}
use Rattle.std.proofs.lemmas.Grind.{flat_map-append}
use Rattle.std.proofs.lemmas.List.{length-map}
use Rattle.std.proofs.lemmas.List.Folds.{list_any-append}
use Rattle.std.proofs.lemmas.List.Sums.{length-filter}
use Rattle.std.proofs.lemmas.Slice.Eq.{bytes_eq-Decides}
use Rattle.ps_base.specs.LetterCase.{folded}
use Rattle.ps_base.specs.declared.failing.Refusal.{Refusal}
use Rattle.ps_base.specs.declared.failing.Rule.TheVariants.{N8}
use Rattle.ps_model.specs.Formula.{Formulas, no_operand, operand}
use Rattle.ps_model.specs.Network as net
use Rattle.ps_model.specs.Network.{Network}
use Rattle.ps_model.specs.Values as values
use Rattle.ps_parser.specs.declared.name.Name.{Name}
use Rattle.ps_parser.specs.declared.statement.Target.TheVariants.{Name as Whole, Pin as OfPin}
use Rattle.ps_parser.specs.Tree.{FactorTree, Signal, Pin, Literal, Time, Group, ProductTree, no_factor, factor, SumTree, no_product, product, StatementTree, Assign, Call}
use Rattle.ps_names.specs.declared.entry.Entry.{Entry}
use Rattle.ps_names.specs.declared.entry.Sort.{Sort}
use Rattle.ps_names.specs.declared.entry.Sort.TheVariants.{InputSignal, OutputSignal, LocalSignal, Instance, Nothing}
use Rattle.ps_names.specs.Names.{same, is_input, is_output, is_local, sort_of}
use Rattle.ps_names.specs.Offences.{offence, when}
use Rattle.ps_names.specs.Limits.{inputs, outputs, locals}
use Rattle.ps_names.specs.Uses.{Use, read, assigned, read_names, statement_uses, factor_uses, product_uses, sum_uses}
use Rattle.ps_names.specs.Rules.{broken_by, at_read, at_read_pin, undriven, undriven_as}
use Rattle.ps_names.specs.Stands.{sort_or, number, number_at, number_as, pin_number, all_joined, any_joined, factor_formula, factor_formulas, product_formula, product_formulas, sum_formula, action, network_of, signal_named}
use Rattle.ps_names.proofs.Distinct.{none_left, none_right, none_at}
use Rattle.ps_names.proofs.Unbroken.{IsUnbroken, none_inside}
use Rattle.ps_names.proofs.Lists.{any_at, any_map, passes_at, brings, in_map}
use Rattle.ps_names.proofs.Targets.{IsDriven, number_is, below_all, one_place, names_it}
use Rattle.ps_names.proofs.ReadNames.{IsSignal, IsRead, read_name, pin_from}
use Rattle.ps_names.proofs.Values.{value_of}
use Rattle.ps_names.proofs.OneDriver.{target_at, declared_is, equal_of}
use Rattle.ps_names.proofs.OneCall.{one_place_of, nth}

-- ---- a name that no use reads is not read in a formula

-- a use of this name in a value
abbrev pub hits : Name → Use → List Refusal
hits m u = flat_map (λ n. when (same m n) (offence N8 n.place ∷ [])) (read u)

nothing_more : (xs ys : List Refusal) → xs ≡ [] → ys ≡ [] → xs ++ ys ≡ []
nothing_more xs ys a b = ap (λ l. l ++ ys) a ∙ b

none_among : (m : Name) (ns : List Name) → list_any (same m) ns ≡ false → flat_map (λ n. when (same m n) (offence N8 n.place ∷ [])) ns ≡ []
none_among m [] h = refl
none_among m (n ∷ ns) h =
    let parts = or_parts (same m n) (list_any (same m) ns) h in
    nothing_more (when (same m n) (offence N8 n.place ∷ [])) _ (ap (λ b. when b (offence N8 n.place ∷ [])) parts.0) (none_among m ns parts.1)

none_hit : (m : Name) (us : List Use) → list_any (same m) (flat_map read us) ≡ false → flat_map (hits m) us ≡ []
none_hit m [] h = refl
none_hit m (u ∷ us) h =
    let parts = or_parts (list_any (same m) (read u)) (list_any (same m) (flat_map read us)) (sym (list_any-append (same m) (read u) (flat_map read us)) ∙ h) in
    nothing_more (hits m u) (flat_map (hits m) us) (none_among m (read u) parts.0) (none_hit m us parts.1)

module _ (s : ℕ) where
  neither : (a b : Bool) → a ≡ false → b ≡ false → (a || b) ≡ false
  neither true b g h = g
  neither false b g h = h

  all_unread : (fs : Formulas) → values.some_reads s fs ≡ false → values.reads s (all_joined fs) ≡ false
  all_unread no_operand h = h
  all_unread (operand e no_operand) h = by (values.reads s e) h
    where
      by : (b : Bool) → (b || false) ≡ false → b ≡ false
      by true g = g
      by false g = refl
  all_unread (operand e (operand f fs)) h = h

  any_unread : (fs : Formulas) → values.some_reads s fs ≡ false → values.reads s (any_joined fs) ≡ false
  any_unread no_operand h = h
  any_unread (operand e no_operand) h = by (values.reads s e) h
    where
      by : (b : Bool) → (b || false) ≡ false → b ≡ false
      by true g = g
      by false g = refl
  any_unread (operand e (operand f fs)) h = h

-- the parts of a list of uses that has no hit
module _ (g : Use → List Refusal) where
  part : (us vs : List Use) → flat_map g (us ++ vs) ≡ [] → flat_map g us ≡ []
  part us vs h = none_left _ (flat_map g vs) (sym (flat_map-append g us vs) ∙ h)

  rest : (us vs : List Use) → flat_map g (us ++ vs) ≡ [] → flat_map g vs ≡ []
  rest us vs h = none_right (flat_map g us) _ (sym (flat_map-append g us vs) ∙ h)

not_hit : (m n : Name) → flat_map (λ n. when (same m n) (offence N8 n.place ∷ [])) (n ∷ []) ≡ [] → same m n ≡ false
not_hit m n h = by (same m n) (none_left _ [] h)
  where
    by : (b : Bool) → when b (offence N8 n.place ∷ []) ≡ [] → b ≡ false
    by true g = cc
    by false g = refl

module _ (es : List Entry) (m : Name) (s : ℕ)
    (name_apart : (n : Name) → at_read n (sort_of es n) ≡ [] → same m n ≡ false → (number es n == s) ≡ false)
    (pin_apart : (n q : Name) → at_read_pin n q (sort_of es n) ≡ [] → (pin_number es n q == s) ≡ false) where
  mutual
    factor_unread : (f : FactorTree) → flat_map (broken_by es) (factor_uses f) ≡ [] → flat_map (hits m) (factor_uses f) ≡ [] → values.reads s (factor_formula es f) ≡ false
    factor_unread (Signal n) none miss = name_apart n (none_left _ [] none) (not_hit m n (none_left _ [] miss))
    factor_unread (Pin n q) none miss = pin_apart n q (none_left _ [] none)
    factor_unread (Literal b p) none miss = refl
    factor_unread (Time t p) none miss = refl
    factor_unread (Group v) none miss = any_unread s (product_formulas es v) (products_unread v none miss)

    factors_unread : (fs : ProductTree) → flat_map (broken_by es) (product_uses fs) ≡ [] → flat_map (hits m) (product_uses fs) ≡ [] → values.some_reads s (factor_formulas es fs) ≡ false
    factors_unread no_factor none miss = refl
    factors_unread (factor f fs) none miss =
        neither s (values.reads s (factor_formula es f)) (values.some_reads s (factor_formulas es fs))
        (factor_unread f (part (broken_by es) (factor_uses f) (product_uses fs) none) (part (hits m) (factor_uses f) (product_uses fs) miss))
        (factors_unread fs (rest (broken_by es) (factor_uses f) (product_uses fs) none) (rest (hits m) (factor_uses f) (product_uses fs) miss))

    products_unread : (v : SumTree) → flat_map (broken_by es) (sum_uses v) ≡ [] → flat_map (hits m) (sum_uses v) ≡ [] → values.some_reads s (product_formulas es v) ≡ false
    products_unread no_product none miss = refl
    products_unread (product p ps) none miss =
        neither s (values.reads s (product_formula es p)) (values.some_reads s (product_formulas es ps))
        (all_unread s (factor_formulas es p) (factors_unread p (part (broken_by es) (product_uses p) (sum_uses ps) none) (part (hits m) (product_uses p) (sum_uses ps) miss)))
        (products_unread ps (rest (broken_by es) (product_uses p) (sum_uses ps) none) (rest (hits m) (product_uses p) (sum_uses ps) miss))

  pub sum_unread : (v : SumTree) → flat_map (broken_by es) (sum_uses v) ≡ [] → flat_map (hits m) (sum_uses v) ≡ [] → values.reads s (sum_formula es v) ≡ false
  sum_unread v none miss = any_unread s (product_formulas es v) (products_unread v none miss)

-- ---- drivers

driven_local : (s : Sort) → is_local s ≡ true → IsDriven s
driven_local (LocalSignal t) h = tt
driven_local (InputSignal t) h = absurd (false≢true h)
driven_local (OutputSignal t) h = absurd (false≢true h)
driven_local (Instance kind) h = absurd (false≢true h)
driven_local Nothing h = absurd (false≢true h)

equal_to : (a b : ℕ) → a ≡ b → (a == b) ≡ true
equal_to a b h = grind (arith, nat_tests)

unequal_to : (a b : ℕ) → (a ≡ b → ⊥) → (a == b) ≡ false
unequal_to a b h = ⊎_elim (λ e. absurd (h (equal_of a b e))) (λ e. e) (cases_Bool (a == b))

driven_if : (s : Sort) (b c : Bool) (n : Name) → is_output s ≡ true → undriven_as s b c n ≡ [] → b ≡ true
driven_if (OutputSignal t) true c n h none = refl
driven_if (OutputSignal t) false c n h none = cc
driven_if (InputSignal t) b c n h none = absurd (false≢true h)
driven_if (LocalSignal t) b c n h none = absurd (false≢true h)
driven_if (Instance kind) b c n h none = absurd (false≢true h)
driven_if Nothing b c n h none = absurd (false≢true h)

driven_if_read : (s : Sort) (b c : Bool) (n : Name) → is_local s ≡ true → c ≡ true → undriven_as s b c n ≡ [] → b ≡ true
driven_if_read (LocalSignal t) true c n h r none = refl
driven_if_read (LocalSignal t) false true n h r none = cc
driven_if_read (LocalSignal t) false false n h r none = absurd (false≢true r)
driven_if_read (InputSignal t) b c n h r none = absurd (false≢true h)
driven_if_read (OutputSignal t) b c n h r none = absurd (false≢true h)
driven_if_read (Instance kind) b c n h r none = absurd (false≢true h)
driven_if_read Nothing b c n h r none = absurd (false≢true h)

output_number : (es : List Entry) (s : Sort) (k : ℕ) → is_output s ≡ true → number_as es s k ≡ inputs es + outputs (take k es)
output_number es (OutputSignal t) k h = refl
output_number es (InputSignal t) k h = absurd (false≢true h)
output_number es (LocalSignal t) k h = absurd (false≢true h)
output_number es (Instance kind) k h = absurd (false≢true h)
output_number es Nothing k h = absurd (false≢true h)

local_number : (es : List Entry) (s : Sort) (k : ℕ) → is_local s ≡ true → number_as es s k ≡ inputs es + outputs es + locals (take k es)
local_number es (LocalSignal t) k h = refl
local_number es (InputSignal t) k h = absurd (false≢true h)
local_number es (OutputSignal t) k h = absurd (false≢true h)
local_number es (Instance kind) k h = absurd (false≢true h)
local_number es Nothing k h = absurd (false≢true h)

module _ (name : List ℕ) (es : List Entry) (ss : List StatementTree) (clean : IsUnbroken es ss) where
  -- an assignment of a declared name drives its signal
  assigned_drives : (k : ℕ) (e : Entry) → slice_get es k ≡ Some e → list_any (same e.name) (flat_map assigned ss) ≡ true →
      net.is_driven (network_of name es ss) (number_as es e.sort k) ≡ true
  assigned_drives k e at h = by b.1 b.2 b.3
    where
      s : ℕ
      s = number_as es e.sort k

      b : (j : ℕ) × (st : StatementTree) × (slice_get ss j ≡ Some st) × (list_any (same e.name) (assigned st) ≡ true)
      b = brings assigned (same e.name) ss h

      same_of : (n : Name) → (same e.name n || false) ≡ true → same e.name n ≡ true
      same_of n any = ⊎_elim (λ x. x) (λ x. absurd (false≢true x)) (or_cases (same e.name n) false any)

      by : (st : StatementTree) → slice_get ss b.0 ≡ Some st → list_any (same e.name) (assigned st) ≡ true →
          net.is_driven (network_of name es ss) (number_as es e.sort k) ≡ true
      by (Assign (OfPin n q) v) at_ any = absurd (false≢true any)
      by (Call n arguments) at_ any = absurd (false≢true any)
      by (Assign (Whole n) v) at_ any =
          let t = target_at name es ss clean b.0 n v at_ in
          let one = (bytes_eq-Decides (folded e.name.text) (folded n.text)).0 (same_of n any) in
          let place : k ≡ t.at = one_place_of name es ss clean k t.at e t.entry at t.is (one ∙ names_it es n t.at t.entry t.declared t.is) in
          let entry : t.entry ≡ e = (let q : Some t.entry ≡ Some e = sym t.is ∙ ap (slice_get es) (sym place) ∙ at in cc) in
          let is : number es n ≡ number_as es e.sort k = number_is es n t ∙ ap (λ x. number_as es x.sort t.at) entry ∙ ap (number_as es e.sort) (sym place) in
          any_map (net.drives (network_of name es ss) (number_as es e.sort k)) (action es) ss
          ∙ any_at (λ x. net.drives (network_of name es ss) (number_as es e.sort k) (action es x)) ss b.0 (Assign (Whole n) v) at_ (equal_to (number es n) (number_as es e.sort k) is)

  pub inputs_are : net.input_count (network_of name es ss) ≡ inputs es
  inputs_are = length-map (filter (λ e. is_input e.sort) es) signal_named ∙ length-filter (λ e. is_input e.sort) es

  pub outputs_are : length (network_of name es ss).outputs ≡ outputs es
  outputs_are = length-map (filter (λ e. is_output e.sort) es) signal_named ∙ length-filter (λ e. is_output e.sort) es

  output_driven : (s : ℕ) → inputs es ≤ s → s < inputs es + outputs es → net.is_driven (network_of name es ss) s ≡ true
  output_driven s low high =
      let r = nth (λ e. is_output e.sort) es (s - inputs es) (omega arith) in
      let has = driven_if r.1.sort _ _ r.1.name r.3 (none_at (undriven (flat_map assigned ss) (read_names ss)) es r.0 r.1 clean.all_driven r.2) in
      let count = r.4 in
      let is : number_as es r.1.sort r.0 ≡ s = output_number es r.1.sort r.0 r.3 ∙ omega arith in
      ap (net.is_driven (network_of name es ss)) (sym is) ∙ assigned_drives r.0 r.1 r.2 has

  pub outputs_driven : (s : ℕ) → net.input_count (network_of name es ss) ≤ s → s < net.input_count (network_of name es ss) + length (network_of name es ss).outputs →
      net.is_driven (network_of name es ss) s ≡ true
  outputs_driven s low high = let a = inputs_are in let b = outputs_are in output_driven s (omega arith) (omega arith)

  -- a name with the number of a local is its name
  module _ (k : ℕ) (e : Entry) (at : slice_get es k ≡ Some e) (local : is_local e.sort ≡ true) where
    number_here : number_as es e.sort k ≡ inputs es + outputs es + locals (take k es)
    number_here = local_number es e.sort k local

    name_of_local : (n : Name) → at_read n (sort_of es n) ≡ [] → number es n ≡ number_as es e.sort k → same e.name n ≡ true
    name_of_local n fine is = by t.entry.sort refl t.signal
      where
        t : IsRead es n
        t = read_name es clean.typed n fine

        number_there : number es n ≡ number_as es t.entry.sort t.at
        number_there = ap (number_at es) t.declared ∙ ap (λ r. number_as es (sort_or (option_map (λ e. e.sort) r)) t.at) t.is

        by : (s : Sort) → t.entry.sort ≡ s → IsSignal s → same e.name n ≡ true
        by (InputSignal v) q d =
            let a = number_there ∙ ap (λ u. number_as es u t.at) q in let b = number_here in
            let less = below_all es (λ x. is_input x.sort) t.at t.entry t.is (ap is_input q) in absurd (omega arith)
        by (OutputSignal v) q d =
            let a = number_there ∙ ap (λ u. number_as es u t.at) q in let b = number_here in
            let less = below_all es (λ x. is_output x.sort) t.at t.entry t.is (ap is_output q) in absurd (omega arith)
        by (LocalSignal v) q d =
            let place : k ≡ t.at = one_place es k t.at e t.entry at t.is e.sort t.entry.sort refl refl (driven_local e.sort local) (subst IsDriven (sym q) tt) (sym is ∙ number_there) in
            let entry : e ≡ t.entry = (let z : Some e ≡ Some t.entry = sym at ∙ ap (slice_get es) place ∙ t.is in cc) in
            (bytes_eq-Decides (folded e.name.text) (folded n.text)).1 (ap (λ x. folded x.name.text) entry ∙ sym (names_it es n t.at t.entry t.declared t.is))
        by (Instance v) q d = absurd d
        by Nothing q d = absurd d

    name_apart : (n : Name) → at_read n (sort_of es n) ≡ [] → same e.name n ≡ false → (number es n == number_as es e.sort k) ≡ false
    name_apart n fine other = unequal_to (number es n) (number_as es e.sort k) (λ is. false≢true (sym other ∙ name_of_local n fine is))

    pin_apart : (n q : Name) → at_read_pin n q (sort_of es n) ≡ [] → (pin_number es n q == number_as es e.sort k) ≡ false
    pin_apart n q fine =
        let a = pin_from es n q fine in let b = number_here in let less = below_all es (λ x. is_local x.sort) k e at local in
        unequal_to (pin_number es n q) (number_as es e.sort k) (λ is. omega arith)

    -- a local that some value reads is a name that is read
    read_local : values.is_read (network_of name es ss) (number_as es e.sort k) ≡ true → list_any (same e.name) (read_names ss) ≡ true
    read_local h = ⊎_elim (λ yes. yes) (λ no_. absurd (unread no_)) (cases_Bool (list_any (same e.name) (read_names ss)))
      where
        unread : list_any (same e.name) (read_names ss) ≡ false → ⊥
        unread none =
            let s = number_as es e.sort k in
            let step = brings values.values_of_step (values.reads s) (map (action es) ss) h in
            let st = in_map (action es) ss step.0 step.1 step.2 in
            let value = passes_at (values.reads s) (values.values_of_step step.1) step.3 in
            let v = value_of (λ _. Unit {0}) es st.0 value.0 value.1 (ap (λ x. slice_get (values.values_of_step x) value.0) st.2 ∙ value.2) in
            let fine = v.uses (broken_by es) (none_inside (broken_by es) statement_uses ss step.0 st.0 clean.uses st.1) in
            let miss = v.uses (hits e.name) (none_inside (hits e.name) statement_uses ss step.0 st.0 (none_hit e.name (flat_map statement_uses ss) none) st.1) in
            false≢true (sym (sum_unread es e.name s name_apart pin_apart v.value fine miss) ∙ ap (values.reads s) (sym v.is) ∙ value.3)

  pub locals_driven : (s : ℕ) → net.input_count (network_of name es ss) ≤ s → s < net.declared_count (network_of name es ss) →
      values.is_read (network_of name es ss) s ≡ true → net.is_driven (network_of name es ss) s ≡ true
  locals_driven s low high read_ = by (cases_lt s (inputs es + outputs es))
    where
      by : (s < inputs es + outputs es) ⊎ (inputs es + outputs es ≤ s) → net.is_driven (network_of name es ss) s ≡ true
      by (inl below) = let a = inputs_are in output_driven s (omega arith) below
      by (inr above) =
          let d = declared_is name es ss clean in
          let r = nth (λ e. is_local e.sort) es (s - inputs es - outputs es) (omega arith) in
          let count = r.4 in
          let is : number_as es r.1.sort r.0 ≡ s = local_number es r.1.sort r.0 r.3 ∙ omega arith in
          let its = read_local r.0 r.1 r.2 r.3 (ap (values.is_read (network_of name es ss)) is ∙ read_) in
          let has = driven_if_read r.1.sort _ _ r.1.name r.3 its (none_at (undriven (flat_map assigned ss) (read_names ss)) es r.0 r.1 clean.all_driven r.2) in
          ap (net.is_driven (network_of name es ss)) (sym is) ∙ assigned_drives r.0 r.1 r.2 has
