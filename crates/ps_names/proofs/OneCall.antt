-- Where no rule is broken, each instance has exactly one call.
use Rattle.std.proofs.Common.{◌≡◌, ℕ, zero, suc, ◌+◌, ◌<◌, ◌≤◌, Bool, true, false, cond, ◌⊎◌, inl, inr, List, [], ◌∷◌, Some, take, slice_get, refl, sym, ap, subst, ◌∙◌, arith, ⊎_elim}
use Rattle.std.specs.Prelude.{count_by}
use Rattle.std.specs.List.{list_any, flat_map}
use Rattle.std.proofs.lemmas.Bool.{false≢true, cases_order, or_cases}
use Rattle.std.proofs.lemmas.List.Concat.{flat_map_single}
use Rattle.std.proofs.lemmas.List.Sums.{sum_by-cons}
use Rattle.std.proofs.lemmas.Bool.Decides.{nat_tests}
use Rattle.std.proofs.lemmas.Slice.Eq.{bytes_eq-Decides}
use Rattle.ps_base.specs.LetterCase.{folded}
use Rattle.ps_parser.specs.declared.name.Name.{Name}
use Rattle.ps_names.specs.declared.entry.Entry.{Entry}
use Rattle.ps_names.specs.declared.entry.Sort.{Sort}
use Rattle.ps_names.specs.declared.entry.Sort.TheVariants.{InputSignal, OutputSignal, LocalSignal, Instance, Nothing}
use Rattle.ps_names.proofs.Distinct.{none_at, unrepeated_differ, at_most_one}
use Rattle.ps_names.proofs.Targets.{one_instance, instance_number, names_it}
use Rattle.ps_base.specs.declared.failing.Rule.TheVariants.{N1, N9}
use Rattle.ps_names.proofs.Unbroken.{IsUnbroken}
use Rattle.ps_names.proofs.OneDriver.{callee_at, count_map, equal_of}
use Rattle.ps_model.specs.Network as net
use Rattle.ps_names.proofs.Lists.{one_of_any, any_at, brings}
use Rattle.ps_names.specs.Names.{same, is_instance}
use Rattle.ps_parser.specs.Tree.{StatementTree, Assign, Call}
use Rattle.ps_names.specs.Uses.{called}
use Rattle.ps_names.specs.Rules.{uncalled, uncalled_as, repeated}
use Rattle.ps_names.specs.Stands.{number, action, network_of}

-- an element that passes, with so many before it
pub nth : {X : Type 0} (p : X → Bool) (xs : List X) (i : ℕ) → i < count_by p xs →
    (k : ℕ) × (x : X) × (slice_get xs k ≡ Some x) × (p x ≡ true) × (count_by p (take k xs) ≡ i)
nth p [] i h = absurd (omega arith)
nth {X = X} p (x ∷ xs) zero h = by (p x) refl (λ none. nth p xs zero (let e : count_by p (x ∷ xs) ≡ cond (p x) 1 0 + count_by p xs = sum_by-cons (λ y. cond (p y) 1 0) x xs in let f = ap (λ b. cond b 1 0 + count_by p xs) none in omega arith))
  where
    by : (b : Bool) → p x ≡ b → (p x ≡ false → (k : ℕ) × (y : X) × (slice_get xs k ≡ Some y) × (p y ≡ true) × (count_by p (take k xs) ≡ 0)) →
        (k : ℕ) × (y : X) × (slice_get (x ∷ xs) k ≡ Some y) × (p y ≡ true) × (count_by p (take k (x ∷ xs)) ≡ 0)
    by true e later = (0, x, refl, e, refl)
    by false e later =
        let r = later e in
        let a : count_by p (x ∷ take r.0 xs) ≡ cond (p x) 1 0 + count_by p (take r.0 xs) = sum_by-cons (λ y. cond (p y) 1 0) x (take r.0 xs) in
        let f = ap (λ b. cond b 1 0 + count_by p (take r.0 xs)) e in
        let g = r.4 in
        (suc r.0, r.1, r.2, r.3, omega arith)
nth {X = X} p (x ∷ xs) (suc i) h =
    by (p x) refl
    (λ e. nth p xs i (let a : count_by p (x ∷ xs) ≡ cond (p x) 1 0 + count_by p xs = sum_by-cons (λ y. cond (p y) 1 0) x xs in let f = ap (λ b. cond b 1 0 + count_by p xs) e in omega arith))
    (λ e. nth p xs (suc i) (let a : count_by p (x ∷ xs) ≡ cond (p x) 1 0 + count_by p xs = sum_by-cons (λ y. cond (p y) 1 0) x xs in let f = ap (λ b. cond b 1 0 + count_by p xs) e in omega arith))
  where
    by : (b : Bool) → p x ≡ b →
        (p x ≡ true → (k : ℕ) × (y : X) × (slice_get xs k ≡ Some y) × (p y ≡ true) × (count_by p (take k xs) ≡ i)) →
        (p x ≡ false → (k : ℕ) × (y : X) × (slice_get xs k ≡ Some y) × (p y ≡ true) × (count_by p (take k xs) ≡ suc i)) →
        (k : ℕ) × (y : X) × (slice_get (x ∷ xs) k ≡ Some y) × (p y ≡ true) × (count_by p (take k (x ∷ xs)) ≡ suc i)
    by true e here later =
        let r = here e in
        let a : count_by p (x ∷ take r.0 xs) ≡ cond (p x) 1 0 + count_by p (take r.0 xs) = sum_by-cons (λ y. cond (p y) 1 0) x (take r.0 xs) in
        let f = ap (λ b. cond b 1 0 + count_by p (take r.0 xs)) e in
        let g = r.4 in
        (suc r.0, r.1, r.2, r.3, omega arith)
    by false e here later =
        let r = later e in
        let a : count_by p (x ∷ take r.0 xs) ≡ cond (p x) 1 0 + count_by p (take r.0 xs) = sum_by-cons (λ y. cond (p y) 1 0) x (take r.0 xs) in
        let f = ap (λ b. cond b 1 0 + count_by p (take r.0 xs)) e in
        let g = r.4 in
        (suc r.0, r.1, r.2, r.3, omega arith)

has_call_if : (s : Sort) (b : Bool) (n : Name) → is_instance s ≡ true → uncalled_as s b n ≡ [] → b ≡ true
has_call_if (Instance k) true n h none = refl
has_call_if (Instance k) false n h none = cc
has_call_if (InputSignal t) b n h none = absurd (false≢true h)
has_call_if (OutputSignal t) b n h none = absurd (false≢true h)
has_call_if (LocalSignal t) b n h none = absurd (false≢true h)
has_call_if Nothing b n h none = absurd (false≢true h)

module _ (name : List ℕ) (es : List Entry) (ss : List StatementTree) (clean : IsUnbroken es ss) where
  apart_calls : (i : ℕ) (j k : ℕ) (x y : StatementTree) → j < k → slice_get ss j ≡ Some x → slice_get ss k ≡ Some y →
      net.is_call_of (network_of name es ss) i (action es x) ≡ true → net.is_call_of (network_of name es ss) i (action es y) ≡ true → ⊥
  apart_calls i j k (Assign t v) y jk ax ay hx hy = false≢true hx
  apart_calls i j k x (Assign t v) jk ax ay hx hy = false≢true hy
  apart_calls i j k (Call m args) (Call n more) jk ax ay hx hy =
      false≢true (sym (unrepeated_differ called N9 [] ss j k _ _ m n jk clean.called_names ax ay refl refl)
      ∙ one_instance es m n (callee_at name es ss clean j m args ax) (callee_at name es ss clean k n more ay)
      (equal_of (number es m) i hx ∙ sym (equal_of (number es n) i hy)))

  pub once_at_most : (i : ℕ) → count_by (net.is_call_of (network_of name es ss) i) (network_of name es ss).steps ≤ 1
  once_at_most i =
      subst (λ n. n ≤ 1) (sym (count_map (net.is_call_of (network_of name es ss) i) (action es) ss))
      (at_most_one (λ x. net.is_call_of (network_of name es ss) i (action es x)) ss (apart_calls i))

  -- two places of one name are one
  pub one_place_of : (j k : ℕ) (d e : Entry) → slice_get es j ≡ Some d → slice_get es k ≡ Some e → folded d.name.text ≡ folded e.name.text → j ≡ k
  one_place_of j k d e aj ak alike_ = by (cases_order j k)
    where
      apart_names : (i l : ℕ) (x y : Entry) → i < l → slice_get es i ≡ Some x → slice_get es l ≡ Some y → folded y.name.text ≡ folded x.name.text → ⊥
      apart_names i l x y il ax ay h =
          false≢true (sym (unrepeated_differ (λ e. e.name ∷ []) N1 [] es i l x y x.name y.name il (ap (repeated N1 []) (flat_map_single (λ e. e.name) es) ∙ clean.names) ax ay refl refl)
          ∙ (bytes_eq-Decides (folded y.name.text) (folded x.name.text)).1 h)

      by : (j ≡ k) ⊎ ((j < k) ⊎ (k < j)) → j ≡ k
      by (inl q) = q
      by (inr (inl l)) = absurd (apart_names j k d e l aj ak (sym alike_))
      by (inr (inr l)) = absurd (apart_names k j e d l ak aj alike_)

  called_at : (i j k : ℕ) (e : Entry) (st : StatementTree) → slice_get es k ≡ Some e → count_by (λ x. is_instance x.sort) (take k es) ≡ i →
      slice_get ss j ≡ Some st → list_any (same e.name) (called st) ≡ true → net.is_call_of (network_of name es ss) i (action es st) ≡ true
  called_at i j k e (Assign t v) ae count as_ any = absurd (false≢true any)
  called_at i j k e (Call n args) ae count as_ any =
      let t = callee_at name es ss clean j n args as_ in
      let one : folded e.name.text ≡ folded n.text = (bytes_eq-Decides (folded e.name.text) (folded n.text)).0 (⊎_elim (λ h. h) (λ h. absurd (false≢true h)) (or_cases (same e.name n) false any)) in
      let place : k ≡ t.at = one_place_of k t.at e t.entry ae t.is (one ∙ names_it es n t.at t.entry t.declared t.is) in
      let is : number es n ≡ i = instance_number es n t ∙ ap (λ z. count_by (λ x. is_instance x.sort) (take z es)) (sym place) ∙ count in
      grind (arith, nat_tests)

  pub once_at_least : (i : ℕ) → i < count_by (λ e. is_instance e.sort) es → 1 ≤ count_by (net.is_call_of (network_of name es ss) i) (network_of name es ss).steps
  once_at_least i h =
      let r = nth (λ e. is_instance e.sort) es i h in
      let has = has_call_if r.1.sort (list_any (same r.1.name) (flat_map called ss)) r.1.name r.3 (none_at (uncalled (flat_map called ss)) es r.0 r.1 clean.all_called r.2) in
      let b = brings called (same r.1.name) ss has in
      subst (λ n. 1 ≤ n) (sym (count_map (net.is_call_of (network_of name es ss) i) (action es) ss))
      (one_of_any (λ x. net.is_call_of (network_of name es ss) i (action es x)) ss
      (any_at (λ x. net.is_call_of (network_of name es ss) i (action es x)) ss b.0 b.1 b.2 (called_at i b.0 r.0 r.1 b.1 r.2 r.4 b.2 b.3)))
