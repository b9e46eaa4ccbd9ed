-- The parts of what a program that breaks no rule has none of.
use Rattle.std.proofs.Common.{◌≡◌, ℕ, zero, suc, Bool, true, false, List, [], ◌∷◌, Some, slice_get, sym, ap, ◌∙◌, refl}
use Rattle.std.specs.List.{flat_map}
use Rattle.std.proofs.lemmas.Grind.{flat_map-append}
use Rattle.ps_base.specs.declared.failing.Place.{Place}
use Rattle.ps_base.specs.declared.failing.Rule.TheVariants.{N11}
use Rattle.ps_parser.specs.Tree.{StatementTree}
use Rattle.ps_names.specs.declared.entry.Entry.{Entry}
use Rattle.ps_names.specs.Offences.{offence, unless}
use Rattle.ps_names.specs.Limits.{is_within}
use Rattle.ps_names.specs.Uses.{statement_uses, assigned, called, read_names}
use Rattle.ps_names.specs.Rules.{declared_twice, pins_twice, assigned_twice, called_twice, untyped, broken_by, undriven, uncalled, too_large, offences_in}
use Rattle.ps_names.proofs.Distinct.{none_left, none_right}

pub record IsUnbroken (es : List Entry) (ss : List StatementTree) : Type 0 where
  pub names : declared_twice es ≡ []
  pub typed : flat_map untyped es ≡ []
  pub uses : flat_map (broken_by es) (flat_map statement_uses ss) ≡ []
  pub pins : flat_map pins_twice ss ≡ []
  pub targets : assigned_twice ss ≡ []
  pub all_driven : flat_map (undriven (flat_map assigned ss) (read_names ss)) es ≡ []
  pub called_names : called_twice ss ≡ []
  pub all_called : flat_map (uncalled (flat_map called ss)) es ≡ []
  pub within : is_within es ss ≡ true

within_if : (place : Place) (es : List Entry) (ss : List StatementTree) (b : Bool) → unless b (offence N11 place ∷ []) ≡ [] → b ≡ true
within_if place es ss true h = refl
within_if place es ss false h = cc

pub unbroken : (place : Place) (es : List Entry) (ss : List StatementTree) → offences_in place es ss ≡ [] → IsUnbroken es ss
unbroken place es ss h =
    let a = none_left _ (too_large place es ss) h in
    let b = none_left _ (flat_map (uncalled (flat_map called ss)) es) a in
    let c = none_left _ (called_twice ss) b in
    let d = none_left _ (flat_map (undriven (flat_map assigned ss) (read_names ss)) es) c in
    let e = none_left _ (assigned_twice ss) d in
    let f = none_left _ (flat_map pins_twice ss) e in
    let g = none_left _ (flat_map (broken_by es) (flat_map statement_uses ss)) f in
    record {
      within = within_if place es ss (is_within es ss) (none_right _ (too_large place es ss) h);
      all_called = none_right _ (flat_map (uncalled (flat_map called ss)) es) a;
      called_names = none_right _ (called_twice ss) b;
      all_driven = none_right _ (flat_map (undriven (flat_map assigned ss) (read_names ss)) es) c;
      targets = none_right _ (assigned_twice ss) d;
      pins = none_right _ (flat_map pins_twice ss) e;
      uses = none_right _ (flat_map (broken_by es) (flat_map statement_uses ss)) f;
      names = none_left _ (flat_map untyped es) g;
      typed = none_right _ (flat_map untyped es) g;
    }

-- a part of what none of has none
pub none_inside : {X Y Z : Type 0} (g : Y → List Z) (f : X → List Y) (xs : List X) (k : ℕ) (x : X) →
    flat_map g (flat_map f xs) ≡ [] → slice_get xs k ≡ Some x → flat_map g (f x) ≡ []
none_inside g f [] k x h at = cc
none_inside g f (y ∷ xs) zero x h at =
    let e : y ≡ x = cc in
    ap (λ z. flat_map g (f z)) (sym e) ∙ none_left (flat_map g (f y)) (flat_map g (flat_map f xs)) (sym (flat_map-append g (f y) (flat_map f xs)) ∙ h)
none_inside g f (y ∷ xs) (suc k) x h at =
    none_inside g f xs k x (none_right (flat_map g (f y)) (flat_map g (flat_map f xs)) (sym (flat_map-append g (f y) (flat_map f xs)) ∙ h)) at
