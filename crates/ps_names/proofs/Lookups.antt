-- What is found by name, since names of pins and of kinds differ.
use Rattle.std.proofs.Common.{◌≡◌, ℕ, zero, suc, ◌+◌, ◌<◌, Bool, true, false, cond, not, List, [], ◌∷◌, Option, None, Some, length, map, position, nat_lt, slice_get, refl, sym, ap, ◌∙◌, arith}
use Rattle.std.specs.List.{find, position_or_len}
use Rattle.std.proofs.lemmas.Bool.{false≢true}
use Rattle.std.proofs.lemmas.Bool.Decides.{nat_tests}
use Rattle.std.proofs.lemmas.Option.{slice_get_within}
use Rattle.std.proofs.lemmas.Slice.Eq.{bytes_eq-Decides}
use Rattle.ps_model.specs.declared.kind.Kind.{Kind}
use Rattle.ps_model.specs.declared.kind.Kind.TheVariants.{Equivalent, Antivalent, EmergencyStop, Espe, ModeSelector, TwoHandTwo, TwoHandThree, GuardMonitoring, GuardLocking, EnableSwitch, SafetyRequest, OutControl, Edm}
use Rattle.ps_model.specs.Blocks.{block}
use Rattle.ps_base.specs.LetterCase.{SameName, folded, is_same_name}
use Rattle.ps_model.specs.Pins.{pin_names, pin_count, IsNamed}
use Rattle.ps_parser.specs.declared.name.Name.{Name}
use Rattle.ps_names.specs.Names.{kinds, kind_called}
use Rattle.ps_names.specs.Rules.{pin_at}
use Rattle.ps_names.proofs.PinNames.{pins_differ, kinds_differ, apart_at}
use Rattle.ps_names.proofs.Lists.{map_at}

module _ {X : Type 0} (p : X → Bool) where
  -- the first element that passes
  pub first_place : (xs : List X) (j : ℕ) (x : X) → slice_get xs j ≡ Some x → p x ≡ true → ((i : ℕ) (y : X) → i < j → slice_get xs i ≡ Some y → p y ≡ false) → position_or_len p xs ≡ j
  first_place [] j x at h before = cc
  first_place (y ∷ xs) zero x at h before = let e : y ≡ x = cc in ap (λ b. cond (not b) (1 + position_or_len p xs) 0) (ap p e ∙ h)
  first_place (y ∷ xs) (suc j) x at h before =
      let later = first_place xs j x at h (λ i z lt there. before (suc i) z (omega arith) there) in
      ap (λ b. cond (not b) (1 + position_or_len p xs) 0) (before 0 y (omega arith) refl) ∙ omega arith

  pub no_place : (xs : List X) → ((i : ℕ) (y : X) → slice_get xs i ≡ Some y → p y ≡ false) → position_or_len p xs ≡ length xs
  no_place [] none = refl
  no_place (y ∷ xs) none =
      let later = no_place xs (λ i z there. none (suc i) z there) in
      ap (λ b. cond (not b) (1 + position_or_len p xs) 0) (none 0 y refl) ∙ omega arith

  some_case : (k n j : ℕ) → k ≡ j → j < n → cond {A = Option ℕ} (nat_lt k n) (Some k) None ≡ Some j
  some_case k n j is h = grind (arith, nat_tests)

  none_case : (k n : ℕ) → k ≡ n → cond {A = Option ℕ} (nat_lt k n) (Some k) None ≡ None
  none_case k n is = grind (arith, nat_tests)

  pub position_first : (xs : List X) (j : ℕ) (x : X) → slice_get xs j ≡ Some x → p x ≡ true → ((i : ℕ) (y : X) → i < j → slice_get xs i ≡ Some y → p y ≡ false) → position p xs ≡ Some j
  position_first xs j x at h before = some_case (position_or_len p xs) (length xs) j (first_place xs j x at h before) (slice_get_within xs j x at)

  pub position_none : (xs : List X) → ((i : ℕ) (y : X) → slice_get xs i ≡ Some y → p y ≡ false) → position p xs ≡ None
  position_none xs none = none_case (position_or_len p xs) (length xs) (no_place xs none)

  pub find_first : (xs : List X) (j : ℕ) (x : X) → slice_get xs j ≡ Some x → p x ≡ true → ((i : ℕ) (y : X) → i < j → slice_get xs i ≡ Some y → p y ≡ false) → find p xs ≡ Some x
  find_first [] j x at h before = cc
  find_first (y ∷ xs) zero x at h before = let e : y ≡ x = cc in ap (λ b. cond b (Some y) (find p xs)) (ap p e ∙ h) ∙ ap Some e
  find_first (y ∷ xs) (suc j) x at h before =
      ap (λ b. cond b (Some y) (find p xs)) (before 0 y (omega arith) refl) ∙ find_first xs j x at h (λ i z lt there. before (suc i) z (omega arith) there)

  pub find_none : (xs : List X) → ((i : ℕ) (y : X) → slice_get xs i ≡ Some y → p y ≡ false) → find p xs ≡ None
  find_none [] none = refl
  find_none (y ∷ xs) none = ap (λ b. cond b (Some y) (find p xs)) (none 0 y refl) ∙ find_none xs (λ i z there. none (suc i) z there)

-- texts that are one but for letter case
alike_if : (a b : List ℕ) → folded a ≡ folded b → is_same_name a b ≡ true
alike_if a b h = (bytes_eq-Decides (folded a) (folded b)).1 h

unlike_if : (a b : List ℕ) → (folded a ≡ folded b → ⊥) → is_same_name a b ≡ false
unlike_if a b h = by (is_same_name a b) refl
  where
    by : (c : Bool) → is_same_name a b ≡ c → c ≡ false
    by true e = absurd (h ((bytes_eq-Decides (folded a) (folded b)).0 e))
    by false e = refl

-- what is one with a text that another one is one with
unlike_earlier : (a b text : List ℕ) → is_same_name a b ≡ false → folded b ≡ folded text → is_same_name text a ≡ false
unlike_earlier a b text apart is = unlike_if text a (λ e. false≢true (sym apart ∙ alike_if a b (sym e ∙ sym is)))

-- the pin of a kind with a name is the first in its table
pub pin_found : (kind : Kind) (q : Name) (j : ℕ) → IsNamed kind q.text j → pin_at kind q ≡ Some j
pin_found kind q j named =
    position_first (is_same_name q.text) (pin_names kind) j named.spelt named.at (alike_if q.text named.spelt (sym named.same))
    (λ i y lt there. unlike_earlier y named.spelt q.text (apart_at (pin_names kind) i j y named.spelt (pins_differ kind) lt there named.at) named.same)

pub pin_missing : (kind : Kind) (q : Name) → ((j : ℕ) → j < pin_count kind → IsNamed kind q.text j → ⊥) → pin_at kind q ≡ None
pin_missing kind q none =
    position_none (is_same_name q.text) (pin_names kind)
    (λ i y there. unlike_if q.text y (λ e. none i (slice_get_within (pin_names kind) i y there) (record { spelt = y; at = there; same = sym e })))

-- each kind stands in the list of kinds
place_of_kind : (kind : Kind) → (j : ℕ) × (slice_get kinds j ≡ Some kind)
place_of_kind Equivalent = (0, refl)
place_of_kind Antivalent = (1, refl)
place_of_kind EmergencyStop = (2, refl)
place_of_kind Espe = (3, refl)
place_of_kind ModeSelector = (4, refl)
place_of_kind TwoHandTwo = (5, refl)
place_of_kind TwoHandThree = (6, refl)
place_of_kind GuardMonitoring = (7, refl)
place_of_kind GuardLocking = (8, refl)
place_of_kind EnableSwitch = (9, refl)
place_of_kind SafetyRequest = (10, refl)
place_of_kind OutControl = (11, refl)
place_of_kind Edm = (12, refl)

pub kind_found : (kind : Kind) (text : List ℕ) → SameName (block kind).name text → kind_called text ≡ Some kind
unfolding kind_called
kind_found kind text is =
    let place = place_of_kind kind in
    find_first (λ k. is_same_name text (block k).name) kinds place.0 kind place.1 (alike_if text (block kind).name (sym is))
    (λ i other lt there.
    unlike_earlier (block other).name (block kind).name text
    (apart_at (map (λ k. (block k).name) kinds) i place.0 (block other).name (block kind).name kinds_differ lt
    (map_at (λ k. (block k).name) kinds i other there) (map_at (λ k. (block k).name) kinds place.0 kind place.1))
    is)

pub kind_missing : (text : List ℕ) → ((kind : Kind) → SameName (block kind).name text → ⊥) → kind_called text ≡ None
unfolding kind_called
kind_missing text none = find_none (λ k. is_same_name text (block k).name) kinds (λ i other there. unlike_if text (block other).name (λ e. none other (sym e)))
