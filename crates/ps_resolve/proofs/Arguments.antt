-- Arguments by the names of pins, and steps one after another.
use Rattle.std.proofs.Common.{◌≡◌, ℕ, zero, suc, ◌+◌, ◌<◌, ◌≤◌, true, false, cond, List, [], ◌∷◌, ◌++◌, Some, length, map, take, drop, get_or, slice_get, refl, sym, ap, ◌∙◌, arith}
use Rattle.std.specs.List.{find}
use Rattle.ps_model.specs.Blocks.{Pin}
use Rattle.ps_model.specs.Action.{free}
use Rattle.ps_parser.specs.declared.statement.Argument.{Argument}
use Rattle.ps_parser.specs.ArgumentView.{argument_tree}
use Rattle.ps_names.specs.declared.entry.Entry.{Entry}
use Rattle.ps_base.specs.LetterCase.{is_same_name}
use Rattle.ps_names.specs.Stands.{given, actual_at, actual_of}

module _ (es : List Entry) (pin : List ℕ) where
  -- an argument of another pin is passed over
  other_suc : (xs : List Argument) (i : ℕ) (d : Argument) → i < length xs → is_same_name (get_or xs i d).pin.text pin ≡ false →
      actual_at es (map argument_tree (drop (suc i) xs)) pin ≡ actual_at es (map argument_tree (drop i xs)) pin
  other_suc [] i d h no_ = absurd (omega arith)
  other_suc (x ∷ xs) zero d h no_ =
      sym (ap (λ b. given es (cond b (Some (argument_tree x)) (find (λ a. is_same_name a.pin.text pin) (map argument_tree xs)))) no_)
  other_suc (x ∷ xs) (suc i) d h no_ = other_suc xs i d (omega arith) no_

  pub other_pin : (xs : List Argument) (i : ℕ) (d : Argument) → i < length xs → is_same_name (get_or xs i d).pin.text pin ≡ false →
      actual_at es (map argument_tree (drop (i + 1) xs)) pin ≡ actual_at es (map argument_tree (drop i xs)) pin
  other_pin xs i d h no_ =
      let on : i + 1 ≡ suc i = omega arith in
      ap (λ n. actual_at es (map argument_tree (drop n xs)) pin) on ∙ other_suc xs i d h no_

  -- the argument of the pin is found
  pub this_pin : (xs : List Argument) (i : ℕ) (d : Argument) → i < length xs → is_same_name (get_or xs i d).pin.text pin ≡ true →
      actual_at es (map argument_tree (drop i xs)) pin ≡ actual_of es (argument_tree (get_or xs i d)).value
  this_pin [] i d h yes_ = absurd (omega arith)
  this_pin (x ∷ xs) zero d h yes_ = ap (λ b. given es (cond b (Some (argument_tree x)) (find (λ a. is_same_name a.pin.text pin) (map argument_tree xs)))) yes_
  this_pin (x ∷ xs) (suc i) d h yes_ = this_pin xs i d (omega arith) yes_

  pub no_pin : (xs : List Argument) (i : ℕ) → length xs ≤ i → actual_at es (map argument_tree (drop i xs)) pin ≡ free
  no_pin [] zero h = refl
  no_pin [] (suc i) h = refl
  no_pin (x ∷ xs) zero h = absurd (omega arith)
  no_pin (x ∷ xs) (suc i) h = no_pin xs i (omega arith)

-- one more pin
more_suc : {A : Type 0} (f : List ℕ → A) (xs : List Pin) (j : ℕ) (name : List ℕ) → slice_get (map (λ (p : Pin). p.name) xs) j ≡ Some name →
    map (λ (p : Pin). f p.name) (take (suc j) xs) ≡ map (λ (p : Pin). f p.name) (take j xs) ++ f name ∷ []
more_suc f [] j name at = cc
more_suc f (p ∷ xs) zero name at = let e : p.name ≡ name = cc in ap (λ n. f n ∷ []) e
more_suc f (p ∷ xs) (suc j) name at = ap (λ l. f p.name ∷ l) (more_suc f xs j name at)

pub more_pins : {A : Type 0} (f : List ℕ → A) (xs : List Pin) (j : ℕ) (name : List ℕ) (old new : List A) (a : A) → slice_get (map (λ (p : Pin). p.name) xs) j ≡ Some name →
    old ≡ map (λ (p : Pin). f p.name) (take j xs) → a ≡ f name → new ≡ old ++ a ∷ [] → new ≡ map (λ (p : Pin). f p.name) (take (j + 1) xs)
more_pins f xs j name old new a at so one is =
    let on : j + 1 ≡ suc j = omega arith in
    is ∙ ap (λ l. l ++ a ∷ []) so ∙ ap (λ x. map (λ (p : Pin). f p.name) (take j xs) ++ x ∷ []) one
    ∙ sym (ap (λ n. map (λ (p : Pin). f p.name) (take n xs)) on ∙ more_suc f xs j name at)
