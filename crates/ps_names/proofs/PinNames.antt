-- The pins of a kind have names that differ without letter case, and so have the kinds.
use Rattle.std.proofs.Common.{◌≡◌, ℕ, zero, suc, ◌<◌, ◌≤◌, Bool, true, false, not, ◌&&◌, List, [], ◌∷◌, ◌++◌, Some, map, slice_get, refl, sym, ap, ◌∙◌, arith}
use Rattle.std.specs.Prelude.{count_by}
use Rattle.std.specs.List.{list_any}
use Rattle.std.proofs.lemmas.Bool.{false≢true, or_parts}
use Rattle.std.proofs.lemmas.List.Folds.{list_any-append}
use Rattle.std.proofs.lemmas.Slice.Eq.{bytes_eq-Decides}
use Rattle.ps_model.specs.declared.kind.Kind.{Kind}
use Rattle.ps_model.specs.declared.kind.Kind.TheVariants.{Equivalent, Antivalent, EmergencyStop, Espe, ModeSelector, TwoHandTwo, TwoHandThree, GuardMonitoring, GuardLocking, EnableSwitch, SafetyRequest, OutControl, Edm}
use Rattle.ps_model.specs.Blocks as blocks
use Rattle.ps_model.specs.Blocks.{block}
use Rattle.ps_model.specs.Pins.{pin_names}
use Rattle.ps_base.specs.LetterCase.{folded, is_same_name}
use Rattle.ps_names.specs.Names.{kinds}
use Rattle.ps_names.proofs.Distinct.{at_most_one}
use Rattle.ps_names.proofs.Lists.{map_at}

-- whether no text of a list is one with a later one, but for letter case
abbrev pub differ : List (List ℕ) → Bool
differ [] = true
differ (x ∷ xs) = not (list_any (is_same_name x) xs) && differ xs

pub pins_differ : (kind : Kind) → differ (pin_names kind) ≡ true
unfolding block
pins_differ Equivalent = refl
pins_differ Antivalent = refl
pins_differ EmergencyStop = refl
pins_differ Espe = refl
pins_differ ModeSelector = refl
pins_differ TwoHandTwo = refl
pins_differ TwoHandThree = refl
pins_differ GuardMonitoring = refl
pins_differ GuardLocking = refl
pins_differ EnableSwitch = refl
pins_differ SafetyRequest = refl
pins_differ OutControl = refl
pins_differ Edm = refl

pub kinds_differ : differ (map (λ kind. (block kind).name) kinds) ≡ true
unfolding block
kinds_differ = refl

both_parts : (a b : Bool) → (not a && b) ≡ true → (a ≡ false) × (b ≡ true)
both_parts true b h = absurd (false≢true h)
both_parts false b h = (refl, h)

-- none of them is one with a later one
pub apart_at : (xs : List (List ℕ)) (i j : ℕ) (x y : List ℕ) → differ xs ≡ true → i < j → slice_get xs i ≡ Some x → slice_get xs j ≡ Some y → is_same_name x y ≡ false
apart_at [] i j x y h lt ax ay = cc
apart_at (z ∷ xs) zero zero x y h lt ax ay = absurd (omega arith)
apart_at (z ∷ xs) (suc i) zero x y h lt ax ay = absurd (omega arith)
apart_at (z ∷ xs) zero (suc j) x y h lt ax ay = ap (λ w. is_same_name w y) (let e : x ≡ z = cc in e) ∙ none_at_all (is_same_name z) xs j y (both_parts _ (differ xs) h).0 ay
  where
    none_at_all : (p : List ℕ → Bool) (ys : List (List ℕ)) (j : ℕ) (y : List ℕ) → list_any p ys ≡ false → slice_get ys j ≡ Some y → p y ≡ false
    none_at_all p [] j y none at = cc
    none_at_all p (w ∷ ys) zero y none at = ap p (let e : y ≡ w = cc in e) ∙ (or_parts (p w) (list_any p ys) none).0
    none_at_all p (w ∷ ys) (suc j) y none at = none_at_all p ys j y (or_parts (p w) (list_any p ys) none).1 at
apart_at (z ∷ xs) (suc i) (suc j) x y h lt ax ay = apart_at xs i j x y (both_parts (list_any (is_same_name z) xs) (differ xs) h).1 (omega arith) ax ay

front_differs : (xs ys : List (List ℕ)) → differ (xs ++ ys) ≡ true → differ xs ≡ true
front_differs [] ys h = refl
front_differs (x ∷ xs) ys h =
    let parts = both_parts (list_any (is_same_name x) (xs ++ ys)) (differ (xs ++ ys)) h in
    let none = (or_parts (list_any (is_same_name x) xs) (list_any (is_same_name x) ys) (sym (list_any-append (is_same_name x) xs ys) ∙ parts.0)).0 in
    let rest = front_differs xs ys parts.1 in
    ap (λ b. not b && differ xs) none ∙ rest

-- at most one input pin of a kind has a name
pub inputs_apart : (kind : Kind) (text : List ℕ) → count_by (λ (p : blocks.Pin). is_same_name text p.name) (block kind).inputs ≤ 1
inputs_apart kind text = at_most_one (λ (p : blocks.Pin). is_same_name text p.name) (block kind).inputs two
  where
    two : (i j : ℕ) (x y : blocks.Pin) → i < j → slice_get (block kind).inputs i ≡ Some x → slice_get (block kind).inputs j ≡ Some y → is_same_name text x.name ≡ true → is_same_name text y.name ≡ true → ⊥
    two i j x y lt ax ay hx hy =
        let front = front_differs (map (λ (p : blocks.Pin). p.name) (block kind).inputs) _ (pins_differ kind) in
        let other = apart_at (map (λ (p : blocks.Pin). p.name) (block kind).inputs) i j x.name y.name front lt (map_at (λ (p : blocks.Pin). p.name) (block kind).inputs i x ax) (map_at (λ (p : blocks.Pin). p.name) (block kind).inputs j y ay) in
        let a : folded text ≡ folded x.name = (bytes_eq-Decides (folded text) (folded x.name)).0 hx in
        let b : folded text ≡ folded y.name = (bytes_eq-Decides (folded text) (folded y.name)).0 hy in
        false≢true (sym other ∙ (bytes_eq-Decides (folded x.name) (folded y.name)).1 (sym a ∙ b))
