-- What names stand for where no rule is broken: targets, instances, and their numbers.
use Rattle.std.proofs.Common.{◌≡◌, ℕ, ◌+◌, ◌<◌, ◌≤◌, Bool, true, false, cond, ◌⊎◌, inl, inr, List, [], Option, None, Some, length, take, slice_get, unwrap_or, refl, sym, ap, subst, ◌∙◌, arith}
use Rattle.std.specs.Prelude.{count_by}
use Rattle.std.specs.Option.{option_map}
use Rattle.std.specs.List.{flat_map}
use Rattle.std.proofs.lemmas.Bool.{cases_order}
use Rattle.std.proofs.lemmas.List.Quantifiers.{position-Some}
use Rattle.std.proofs.lemmas.Option.{slice_get_within, get_or_from_slice_get}
use Rattle.std.proofs.lemmas.Slice.Eq.{bytes_eq-Decides}
use Rattle.std.proofs.Math.Seq.{take-length}
use Rattle.ps_base.specs.LetterCase.{folded}
use Rattle.ps_parser.specs.declared.name.Name.{Name}
use Rattle.ps_names.specs.declared.entry.Entry.{Entry}
use Rattle.ps_names.specs.declared.entry.Sort.{Sort}
use Rattle.ps_names.specs.declared.entry.Sort.TheVariants.{InputSignal, OutputSignal, LocalSignal, Instance, Nothing}
use Rattle.ps_base.specs.declared.failing.Refusal.{Refusal}
use Rattle.ps_model.specs.declared.kind.Kind.{Kind}
use Rattle.ps_names.proofs.Distinct.{none_at, count_less}
use Rattle.ps_names.specs.Names.{same, is_input, is_output, is_local, is_instance, declared_at, sort_at, sort_of}
use Rattle.ps_names.specs.Uses.{drives, runs}
use Rattle.ps_names.specs.Rules.{at_call, broken_by, at_drive, at_drive_pin, untyped, untyped_as, has_output, unassignable, wrong}
use Rattle.ps_names.specs.Stands.{number, number_at, number_as}

-- what an assignment may have as its target, as far as its use goes
abbrev MayDrive : Option Sort → Type 0
MayDrive (Some (OutputSignal t)) = Unit {0}
MayDrive (Some (LocalSignal t)) = Unit {0}
MayDrive (Some Nothing) = Unit {0}
MayDrive _ = ⊥

may_drive : (n : Name) (s : Option Sort) → at_drive n s ≡ [] → MayDrive s
may_drive n None h = cc
may_drive n (Some (InputSignal t)) h = cc
may_drive n (Some (OutputSignal t)) h = tt
may_drive n (Some (LocalSignal t)) h = tt
may_drive n (Some (Instance k)) h = cc
may_drive n (Some Nothing) h = tt

pub never_a_pin : (n q : Name) (s : Option Sort) → at_drive_pin n q s ≡ [] → ⊥
never_a_pin n q None h = cc
never_a_pin n q (Some (InputSignal t)) h = cc
never_a_pin n q (Some (OutputSignal t)) h = cc
never_a_pin n q (Some (LocalSignal t)) h = cc
never_a_pin n q (Some (Instance k)) h = by (has_output k q) h
  where
    by : (b : Bool) → cond {A = List Refusal} b (unassignable n) (wrong q) ≡ [] → ⊥
    by true e = cc
    by false e = cc
never_a_pin n q (Some Nothing) h = cc

called_kind : (n : Name) (s : Sort) → at_call n (Some s) ≡ [] → (kind : Kind) × (s ≡ Instance kind)
called_kind n (InputSignal t) h = cc
called_kind n (OutputSignal t) h = cc
called_kind n (LocalSignal t) h = cc
called_kind n (Instance k) h = (k, refl)
called_kind n Nothing h = cc

-- an output or a local
abbrev pub IsDriven : Sort → Type 0
IsDriven (OutputSignal t) = Unit {0}
IsDriven (LocalSignal t) = Unit {0}
IsDriven _ = ⊥

module _ (es : List Entry) where
  -- the first declaration of a name
  pub record IsDeclared (n : Name) : Type 0 where
    pub at : ℕ
    pub entry : Entry
    pub declared : declared_at es n ≡ Some at
    pub is : slice_get es at ≡ Some entry

  -- what holds of the sort of a name, and of no name that is not declared, holds of the sort of its first declaration
  pub declaration_where : (n : Name) (P : Option Sort → Type 0) → (P None → ⊥) → P (sort_of es n) → (t : IsDeclared n) × P (Some t.entry.sort)
  declaration_where n P none p = by (declared_at es n) refl p
    where
      found : (k : ℕ) (r : Option Entry) → declared_at es n ≡ Some k → slice_get es k ≡ r → P (option_map (λ e. e.sort) r) → (t : IsDeclared n) × P (Some t.entry.sort)
      found k None d q m = absurd (none m)
      found k (Some e) d q m = (record { at = k; entry = e; declared = d; is = q }, m)

      by : (o : Option ℕ) → declared_at es n ≡ o → P (sort_at es o) → (t : IsDeclared n) × P (Some t.entry.sort)
      by None d m = absurd (none m)
      by (Some k) d m = found k (slice_get es k) d refl m

  -- a name that stands for an output or a local, with its first declaration
  pub record IsTarget (n : Name) : Type 0 where
    pub at : ℕ
    pub entry : Entry
    pub declared : declared_at es n ≡ Some at
    pub is : slice_get es at ≡ Some entry
    pub driven : IsDriven entry.sort

  module _ (typed : flat_map untyped es ≡ []) where
    driven_sort : (k : ℕ) (e : Entry) → slice_get es k ≡ Some e → MayDrive (Some e.sort) → IsDriven e.sort
    driven_sort k e at h = by e.sort refl h
      where
        by : (s : Sort) → e.sort ≡ s → MayDrive (Some s) → IsDriven s
        by (InputSignal t) q m = m
        by (OutputSignal t) q m = tt
        by (LocalSignal t) q m = tt
        by (Instance k) q m = m
        by Nothing q m = let none : untyped_as e.ty Nothing ≡ [] = ap (untyped_as e.ty) (sym q) ∙ none_at untyped es k e typed at in cc

    pub target : (n : Name) → broken_by es (drives n) ≡ [] → IsTarget n
    target n h =
        let r = declaration_where n MayDrive (λ e. e) (may_drive n (sort_of es n) h) in
        record { at = r.0.at; entry = r.0.entry; declared = r.0.declared; is = r.0.is; driven = driven_sort r.0.at r.0.entry r.0.is r.1 }

  -- its number
  pub number_is : (n : Name) (t : IsTarget n) → number es n ≡ number_as es t.entry.sort t.at
  number_is n t = ap (number_at es) t.declared ∙ ap (λ r. number_as es (unwrap_or (option_map (λ e. e.sort) r) Nothing) t.at) t.is

  same_place : (p : Entry → Bool) (j k : ℕ) (d e : Entry) → slice_get es j ≡ Some d → slice_get es k ≡ Some e → p d ≡ true → p e ≡ true →
      count_by p (take j es) ≡ count_by p (take k es) → j ≡ k
  same_place p j k d e aj ak pj pk h = by (cases_order j k)
    where
      by : (j ≡ k) ⊎ ((j < k) ⊎ (k < j)) → j ≡ k
      by (inl q) = q
      by (inr (inl l)) = absurd (let x = count_less p es j k d l aj pj in omega arith)
      by (inr (inr l)) = absurd (let x = count_less p es k j e l ak pk in omega arith)

  pub below_all : (p : Entry → Bool) (j : ℕ) (d : Entry) → slice_get es j ≡ Some d → p d ≡ true → count_by p (take j es) < count_by p es
  below_all p j d at h =
      subst (λ l. count_by p (take j es) < count_by p l) (take-length es) (count_less p es j (length es) d (slice_get_within es j d at) at h)

  -- two of one number are one declaration
  pub one_place : (j k : ℕ) (d e : Entry) → slice_get es j ≡ Some d → slice_get es k ≡ Some e → (s u : Sort) → d.sort ≡ s → e.sort ≡ u →
      IsDriven s → IsDriven u → number_as es s j ≡ number_as es u k → j ≡ k
  one_place j k d e aj ak (OutputSignal t) (OutputSignal v) ds eu hs hu h =
      same_place (λ x. is_output x.sort) j k d e aj ak (ap is_output ds) (ap is_output eu) (omega arith)
  one_place j k d e aj ak (OutputSignal t) (LocalSignal v) ds eu hs hu h =
      absurd (let less = below_all (λ x. is_output x.sort) j d aj (ap is_output ds) in omega arith)
  one_place j k d e aj ak (LocalSignal t) (OutputSignal v) ds eu hs hu h =
      absurd (let less = below_all (λ x. is_output x.sort) k e ak (ap is_output eu) in omega arith)
  one_place j k d e aj ak (LocalSignal t) (LocalSignal v) ds eu hs hu h =
      same_place (λ x. is_local x.sort) j k d e aj ak (ap is_local ds) (ap is_local eu) (omega arith)
  one_place j k d e aj ak (InputSignal t) u ds eu hs hu h = absurd hs
  one_place j k d e aj ak (Instance i) u ds eu hs hu h = absurd hs
  one_place j k d e aj ak Nothing u ds eu hs hu h = absurd hs
  one_place j k d e aj ak s (InputSignal t) ds eu hs hu h = absurd hu
  one_place j k d e aj ak s (Instance i) ds eu hs hu h = absurd hu
  one_place j k d e aj ak s Nothing ds eu hs hu h = absurd hu

  -- a name is that of its declaration
  pub names_it : (n : Name) (k : ℕ) (e : Entry) → declared_at es n ≡ Some k → slice_get es k ≡ Some e → folded n.text ≡ folded e.name.text
  names_it n k e d at =
      (bytes_eq-Decides (folded n.text) (folded e.name.text)).0
      (ap (same n) (ap (λ x. x.name) (sym (get_or_from_slice_get es k e e at))) ∙ (position-Some (λ x. same n x.name) es k e d).1)

  -- targets of one number are one name
  pub one_name : (m n : Name) → IsTarget m → IsTarget n → number es m ≡ number es n → same n m ≡ true
  one_name m n a b h =
      let place : a.at ≡ b.at = one_place a.at b.at a.entry b.entry a.is b.is a.entry.sort b.entry.sort refl refl a.driven b.driven (sym (number_is m a) ∙ h ∙ number_is n b) in
      let one : a.entry ≡ b.entry = (let q : Some a.entry ≡ Some b.entry = sym a.is ∙ ap (slice_get es) place ∙ b.is in cc) in
      (bytes_eq-Decides (folded n.text) (folded m.text)).1
      (names_it n b.at b.entry b.declared b.is ∙ ap (λ e. folded e.name.text) (sym one) ∙ sym (names_it m a.at a.entry a.declared a.is))

  -- the bounds of a target's number
  pub target_range : (n : Name) → IsTarget n →
      (count_by (λ e. is_input e.sort) es ≤ number es n)
      × (number es n < count_by (λ e. is_input e.sort) es + count_by (λ e. is_output e.sort) es + count_by (λ e. is_local e.sort) es)
  target_range n t = by t.entry.sort refl t.driven
    where
      by : (u : Sort) → t.entry.sort ≡ u → IsDriven u →
          (count_by (λ e. is_input e.sort) es ≤ number es n)
          × (number es n < count_by (λ e. is_input e.sort) es + count_by (λ e. is_output e.sort) es + count_by (λ e. is_local e.sort) es)
      by (InputSignal v) q d = absurd d
      by (OutputSignal v) q d =
          let e : number es n ≡ number_as es (OutputSignal v) t.at = number_is n t ∙ ap (λ u. number_as es u t.at) q in
          let less = below_all (λ x. is_output x.sort) t.at t.entry t.is (ap is_output q) in
          (omega arith, omega arith)
      by (LocalSignal v) q d =
          let e : number es n ≡ number_as es (LocalSignal v) t.at = number_is n t ∙ ap (λ u. number_as es u t.at) q in
          let less = below_all (λ x. is_local x.sort) t.at t.entry t.is (ap is_local q) in
          (omega arith, omega arith)
      by (Instance v) q d = absurd d
      by Nothing q d = absurd d

  -- a name that stands for an instance, with its first declaration
  pub record IsInstance (n : Name) : Type 0 where
    pub at : ℕ
    pub entry : Entry
    pub kind : Kind
    pub declared : declared_at es n ≡ Some at
    pub is : slice_get es at ≡ Some entry
    pub sort : entry.sort ≡ Instance kind

  pub instance_of : (n : Name) (t : IsDeclared n) → (kind : Kind) × (t.entry.sort ≡ Instance kind) → IsInstance n
  instance_of n t k = record { at = t.at; entry = t.entry; kind = k.0; declared = t.declared; is = t.is; sort = k.1 }

  pub callee : (n : Name) → broken_by es (runs n) ≡ [] → IsInstance n
  callee n h = let r = declaration_where n (λ s. at_call n s ≡ []) (λ e. cc) h in instance_of n r.0 (called_kind n r.0.entry.sort r.1)

  pub instance_number : (n : Name) (t : IsInstance n) → number es n ≡ count_by (λ e. is_instance e.sort) (take t.at es)
  instance_number n t =
      ap (number_at es) t.declared ∙ ap (λ r. number_as es (unwrap_or (option_map (λ e. e.sort) r) Nothing) t.at) t.is ∙ ap (λ u. number_as es u t.at) t.sort

  pub instance_range : (n : Name) → IsInstance n → number es n < count_by (λ e. is_instance e.sort) es
  instance_range n t =
      let e = instance_number n t in let less = below_all (λ x. is_instance x.sort) t.at t.entry t.is (ap is_instance t.sort) in omega arith

  -- instances of one number are one name
  pub one_instance : (m n : Name) → IsInstance m → IsInstance n → number es m ≡ number es n → same n m ≡ true
  one_instance m n a b h =
      let place : a.at ≡ b.at = same_place (λ x. is_instance x.sort) a.at b.at a.entry b.entry a.is b.is (ap is_instance a.sort) (ap is_instance b.sort) (sym (instance_number m a) ∙ h ∙ instance_number n b) in
      let one : a.entry ≡ b.entry = (let q : Some a.entry ≡ Some b.entry = sym a.is ∙ ap (slice_get es) place ∙ b.is in cc) in
      (bytes_eq-Decides (folded n.text) (folded m.text)).1
      (names_it n b.at b.entry b.declared b.is ∙ ap (λ e. folded e.name.text) (sym one) ∙ sym (names_it m a.at a.entry a.declared a.is))
