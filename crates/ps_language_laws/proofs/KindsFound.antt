-- The kind of an instance by its name.
use Rattle.std.proofs.Common.{◌≡◌, ℕ, zero, suc, Bool, true, false, cond, List, [], ◌∷◌, ◌++◌, Some, slice_get, refl, sym, ap, ◌∙◌}
use Rattle.std.specs.Option.{option_map}
use Rattle.std.specs.List.{find}
use Rattle.std.specs.Str.{bytes_eq}
use Rattle.std.proofs.lemmas.Bool.{false≢true}
use Rattle.std.proofs.lemmas.Slice.Eq.{bytes_eq-Decides}
use Rattle.ps_base.specs.LetterCase.{folded}
use Rattle.ps_model.specs.declared.kind.Kind.{Kind}
use Rattle.ps_model.specs.declared.named.Instance as model_instance
use Rattle.ps_parser.specs.declared.name.Name.{Name}
use Rattle.ps_parser.specs.Tree.{StatementTree}
use Rattle.ps_names.specs.declared.entry.Entry.{Entry}
use Rattle.ps_names.specs.declared.entry.Sort.{Sort}
use Rattle.ps_names.specs.declared.entry.Sort.TheVariants.{InputSignal, OutputSignal, LocalSignal, Instance, Nothing}
use Rattle.ps_names.proofs.Unbroken.{IsUnbroken}
use Rattle.ps_names.proofs.Targets.{IsInstance, names_it}
use Rattle.ps_names.proofs.OneCall.{one_place_of}
use Rattle.ps_language_laws.specs.Equations.{kind_at}
use Rattle.ps_language_laws.specs.TextScans.{instance_at, instances_in}

-- an instance that has another name is not found
not_found : (p q : List ℕ) (s : Sort) (rest : List model_instance.Instance) → bytes_eq p q ≡ false → find (λ i. bytes_eq p i.name) (instance_at q s ++ rest) ≡ find (λ i. bytes_eq p i.name) rest
not_found p q (InputSignal t) rest h = refl
not_found p q (OutputSignal t) rest h = refl
not_found p q (LocalSignal t) rest h = refl
not_found p q Nothing rest h = refl
not_found p q (Instance kind) rest h = ap (λ b. cond b (Some (record { name = q; kind = kind })) (find (λ i. bytes_eq p i.name) rest)) h

-- where each declaration of a name makes it an instance of this kind, and there is one, this is its kind
kind_among : (p : List ℕ) (kind : Kind) (xs : List Entry) →
    ((k : ℕ) (e : Entry) → slice_get xs k ≡ Some e → bytes_eq p (folded e.name.text) ≡ true → e.sort ≡ Instance kind) →
    (k : ℕ) (e : Entry) → slice_get xs k ≡ Some e → bytes_eq p (folded e.name.text) ≡ true → kind_at (instances_in [] xs) p ≡ Some kind
kind_among p kind [] all k e at is = cc
kind_among p kind (x ∷ xs) all k e at is = by (bytes_eq p (folded x.name.text)) refl k at (kind_among p kind xs (λ j y. all (suc j) y))
  where
    by : (b : Bool) → bytes_eq p (folded x.name.text) ≡ b → (k : ℕ) → slice_get (x ∷ xs) k ≡ Some e →
        ((j : ℕ) (y : Entry) → slice_get xs j ≡ Some y → bytes_eq p (folded y.name.text) ≡ true → kind_at (instances_in [] xs) p ≡ Some kind) →
        kind_at (instances_in [] (x ∷ xs)) p ≡ Some kind
    by true h k at rest =
        ap (λ s. kind_at (instance_at (folded x.name.text) s ++ instances_in [] xs) p) (all 0 x refl h)
        ∙ ap (λ b. option_map (λ i. i.kind) (cond b (Some (record { name = folded x.name.text; kind = kind })) (find (λ i. bytes_eq p i.name) (instances_in [] xs)))) h
    by false h zero at rest = absurd (false≢true (sym h ∙ ap (λ y. bytes_eq p (folded y.name.text)) (let same : x ≡ e = cc in same) ∙ is))
    by false h (suc k) at rest = ap (option_map (λ i. i.kind)) (not_found p (folded x.name.text) x.sort (instances_in [] xs) h) ∙ rest k e at is

module _ (name : List ℕ) (es : List Entry) (ss : List StatementTree) (clean : IsUnbroken es ss) where
  pub kind_is : (n : Name) (t : IsInstance es n) → kind_at (instances_in [] es) (folded n.text) ≡ Some t.kind
  kind_is n t =
      let own = names_it es n t.at t.entry t.declared t.is in
      kind_among (folded n.text) t.kind es
      (λ k e at h.
      let place = one_place_of name es ss clean k t.at e t.entry at t.is (sym ((bytes_eq-Decides (folded n.text) (folded e.name.text)).0 h) ∙ own) in
      let entry : e ≡ t.entry = (let q : Some e ≡ Some t.entry = sym at ∙ ap (slice_get es) place ∙ t.is in cc) in
      ap (λ x. x.sort) entry ∙ t.sort)
      t.at t.entry t.is ((bytes_eq-Decides (folded n.text) (folded t.entry.name.text)).1 own)
