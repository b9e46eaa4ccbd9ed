-- What names that are read stand for where no rule is broken.
use Rattle.std.proofs.Common.{◌≡◌, ℕ, zero, suc, ◌+◌, ◌-◌, ◌<◌, ◌≤◌, Bool, true, false, not, List, [], ◌∷◌, ◌++◌, Option, None, Some, length, map, take, slice_get, unwrap_or, nat_lt, refl, sym, ap, ◌∙◌, arith, length-append}
use Rattle.std.specs.Prelude.{sum_by, codes}
use Rattle.std.specs.Option.{option_map}
use Rattle.std.specs.List.{flat_map}
use Rattle.std.proofs.lemmas.Bool.{false≢true}
use Rattle.std.proofs.lemmas.Bool.Decides.{nat_tests}
use Rattle.std.proofs.lemmas.List.{length-map}
use Rattle.std.proofs.lemmas.List.Sums.{sum_by-cons}
use Rattle.std.proofs.lemmas.List.Quantifiers.{position-Some}
use Rattle.ps_model.specs.declared.kind.Kind.{Kind}
use Rattle.ps_model.specs.Blocks.{Pin, Output, block, output_count}
use Rattle.ps_model.specs.Pins.{pin_names}
use Rattle.ps_parser.specs.declared.name.Name.{Name}
use Rattle.ps_names.specs.declared.entry.Entry.{Entry}
use Rattle.ps_names.specs.declared.entry.Sort.{Sort}
use Rattle.ps_names.specs.declared.entry.Sort.TheVariants.{InputSignal, OutputSignal, LocalSignal, Instance, Nothing}
use Rattle.ps_base.specs.LetterCase.{is_same_name}
use Rattle.ps_names.specs.Names.{is_input, is_output, is_local, declared_at, sort_at, sort_of}
use Rattle.ps_names.specs.Offences.{unless}
use Rattle.ps_names.specs.Limits.{outputs_of, inputs, outputs, locals, signals}
use Rattle.ps_names.specs.Rules.{untyped, untyped_as, pin_at, puts, has_output, wrong, at_read, at_read_pin}
use Rattle.ps_names.specs.Stands.{output_at, number, number_at, number_as, outputs_before, pin_number, pin_number_at, pin_number_as}
use Rattle.ps_names.proofs.Distinct.{none_at}
use Rattle.ps_names.proofs.Targets.{IsInstance, declaration_where, instance_of, below_all}

-- an input, an output or a local
abbrev pub IsSignal : Sort → Type 0
IsSignal (InputSignal t) = Unit {0}
IsSignal (OutputSignal t) = Unit {0}
IsSignal (LocalSignal t) = Unit {0}
IsSignal _ = ⊥

abbrev MayRead : Option Sort → Type 0
MayRead None = ⊥
MayRead (Some (Instance kind)) = ⊥
MayRead (Some _) = Unit {0}

may_read : (n : Name) (s : Option Sort) → at_read n s ≡ [] → MayRead s
may_read n None h = cc
may_read n (Some (InputSignal t)) h = tt
may_read n (Some (OutputSignal t)) h = tt
may_read n (Some (LocalSignal t)) h = tt
may_read n (Some (Instance kind)) h = cc
may_read n (Some Nothing) h = tt

read_kind : (n q : Name) (s : Sort) → at_read_pin n q (Some s) ≡ [] → (kind : Kind) × (s ≡ Instance kind)
read_kind n q (InputSignal t) h = cc
read_kind n q (OutputSignal t) h = cc
read_kind n q (LocalSignal t) h = cc
read_kind n q (Instance kind) h = (kind, refl)
read_kind n q Nothing h = cc

-- the number of outputs of a kind, after its inputs in the table of pins
pins_are : (kind : Kind) → length (pin_names kind) ≡ length (block kind).inputs + output_count kind
unfolding output_count
pins_are kind =
    let a = length-append (map (λ (p : Pin). p.name) (block kind).inputs) (map (λ (o : Output). o.name) (block kind).outputs ++ (codes "Ready" ∷ codes "Error" ∷ [])) in
    let b = length-append (map (λ (o : Output). o.name) (block kind).outputs) (codes "Ready" ∷ codes "Error" ∷ []) in
    let c = length-map (block kind).inputs (λ (p : Pin). p.name) in
    let d = length-map (block kind).outputs (λ (o : Output). o.name) in
    omega arith

at_least : (j m : ℕ) → not (nat_lt j m) ≡ true → m ≤ j
at_least j m h = grind (arith, nat_tests)

less_than : (x j m total count : ℕ) → x ≡ j → m ≤ j → j < total → total ≡ m + count → x - m < count
less_than x j m total count is low high all = omega arith

module _ (es : List Entry) where
  -- a name that stands for a signal with a declaration of its own
  pub record IsRead (n : Name) : Type 0 where
    pub at : ℕ
    pub entry : Entry
    pub declared : declared_at es n ≡ Some at
    pub is : slice_get es at ≡ Some entry
    pub signal : IsSignal entry.sort

  module _ (typed : flat_map untyped es ≡ []) where
    signal_sort : (k : ℕ) (e : Entry) → slice_get es k ≡ Some e → MayRead (Some e.sort) → IsSignal e.sort
    signal_sort k e at h = by e.sort refl h
      where
        by : (s : Sort) → e.sort ≡ s → MayRead (Some s) → IsSignal s
        by (InputSignal t) q m = tt
        by (OutputSignal t) q m = tt
        by (LocalSignal t) q m = tt
        by (Instance kind) q m = m
        by Nothing q m = let none : untyped_as e.ty Nothing ≡ [] = ap (untyped_as e.ty) (sym q) ∙ none_at untyped es k e typed at in cc

    pub read_name : (n : Name) → at_read n (sort_of es n) ≡ [] → IsRead n
    read_name n h =
        let r = declaration_where es n MayRead (λ e. e) (may_read n (sort_of es n) h) in
        record { at = r.0.at; entry = r.0.entry; declared = r.0.declared; is = r.0.is; signal = signal_sort r.0.at r.0.entry r.0.is r.1 }

    -- the number of a name that is read is below those of the pins
    pub name_below : (n : Name) → at_read n (sort_of es n) ≡ [] → number es n < inputs es + outputs es + locals es
    name_below n h = by t.entry.sort refl t.signal
      where
        t : IsRead n
        t = read_name n h

        number_is : number es n ≡ number_as es t.entry.sort t.at
        number_is = ap (number_at es) t.declared ∙ ap (λ r. number_as es (unwrap_or (option_map (λ e. e.sort) r) Nothing) t.at) t.is

        by : (s : Sort) → t.entry.sort ≡ s → IsSignal s → number es n < inputs es + outputs es + locals es
        by (InputSignal v) q d =
            let e : number es n ≡ number_as es (InputSignal v) t.at = number_is ∙ ap (λ u. number_as es u t.at) q in
            let less = below_all es (λ x. is_input x.sort) t.at t.entry t.is (ap is_input q) in omega arith
        by (OutputSignal v) q d =
            let e : number es n ≡ number_as es (OutputSignal v) t.at = number_is ∙ ap (λ u. number_as es u t.at) q in
            let less = below_all es (λ x. is_output x.sort) t.at t.entry t.is (ap is_output q) in omega arith
        by (LocalSignal v) q d =
            let e : number es n ≡ number_as es (LocalSignal v) t.at = number_is ∙ ap (λ u. number_as es u t.at) q in
            let less = below_all es (λ x. is_local x.sort) t.at t.entry t.is (ap is_local q) in omega arith
        by (Instance v) q d = absurd d
        by Nothing q d = absurd d

  pub read_instance : (n q : Name) → at_read_pin n q (sort_of es n) ≡ [] → IsInstance es n
  read_instance n q h = let r = declaration_where es n (λ s. at_read_pin n q s ≡ []) (λ e. cc) h in instance_of es n r.0 (read_kind n q r.0.entry.sort r.1)

  sort_is : (n : Name) (t : IsInstance es n) → sort_of es n ≡ Some (Instance t.kind)
  sort_is n t = ap (sort_at es) t.declared ∙ ap (option_map (λ e. e.sort)) t.is ∙ ap Some t.sort

  pin_is : (n q : Name) (t : IsInstance es n) → pin_number es n q ≡ outputs_before es t.at + output_at t.kind q
  pin_is n q t =
      ap (λ o. pin_number_at es o q) t.declared
      ∙ ap (λ s. pin_number_as es s t.at q) (ap (option_map (λ e. e.sort)) t.is ∙ ap Some t.sort)

  -- a pin's output is below all signals, and not below the declared ones
  pub pin_from : (n q : Name) → at_read_pin n q (sort_of es n) ≡ [] → inputs es + outputs es + locals es ≤ pin_number es n q
  pin_from n q h = let t = read_instance n q h in let e = pin_is n q t in omega arith

  has_it : (b : Bool) (q : Name) → unless b (wrong q) ≡ [] → b ≡ true
  has_it true q h = refl
  has_it false q h = cc

  output_below : (kind : Kind) (q : Name) → has_output kind q ≡ true → output_at kind q < output_count kind
  output_below kind q h = by (pin_at kind q) refl h
    where
      by : (o : Option ℕ) → pin_at kind q ≡ o → puts kind o ≡ true → unwrap_or (pin_at kind q) 0 - length (block kind).inputs < output_count kind
      by None e p = absurd (false≢true p)
      by (Some j) e p =
          less_than _ j (length (block kind).inputs) (length (pin_names kind)) (output_count kind) (ap (λ o. unwrap_or o 0) e) (at_least j (length (block kind).inputs) p)
          (position-Some (is_same_name q.text) (pin_names kind) j [] e).0 (pins_are kind)

  sum_upto : (xs : List Entry) (k : ℕ) (e : Entry) → slice_get xs k ≡ Some e → sum_by (λ x. outputs_of x.sort) (take k xs) + outputs_of e.sort ≤ sum_by (λ x. outputs_of x.sort) xs
  sum_upto [] k e at = cc
  sum_upto (x ∷ xs) zero e at = let same : x ≡ e = cc in let f = ap (λ y. outputs_of y.sort) same in omega (arith, sum_by-cons (λ y. outputs_of y.sort) x xs)
  sum_upto (x ∷ xs) (suc k) e at =
      omega (arith, sum_by-cons (λ y. outputs_of y.sort) x xs, sum_by-cons (λ y. outputs_of y.sort) x (take k xs), sum_upto xs k e at)

  pub pin_below : (n q : Name) → at_read_pin n q (sort_of es n) ≡ [] → pin_number es n q < signals es
  pin_below n q h =
      let t = read_instance n q h in
      let has = has_it (has_output t.kind q) q (ap (at_read_pin n q) (sym (sort_is n t)) ∙ h) in
      let less = output_below t.kind q has in
      let upto = sum_upto es t.at t.entry t.is in
      let its : outputs_of t.entry.sort ≡ output_count t.kind = ap outputs_of t.sort in
      let e = pin_is n q t in
      omega arith
