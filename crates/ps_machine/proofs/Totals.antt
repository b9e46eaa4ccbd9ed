-- How much code the steps of an application, or the pins of a call, have altogether, where it is known of each.
use Rattle.std.proofs.Common.{◌≡◌, ℕ, zero, suc, ◌+◌, ◌*◌, ◌^◌, ◌<◌, ◌≤◌, List, [], ◌∷◌, ◌++◌, length, take, drop, get_or, refl, ap, ◌∙◌, arith, length-append, Some}
use Rattle.std.specs.Prelude.{slice_get, sum_by}
use Rattle.std.specs.List.{flat_map, range_with_len}
use Rattle.std.proofs.lemmas.List.{drop_more}
use Rattle.std.proofs.lemmas.List.Sums.{sum_by-cons}
use Rattle.ps_model.specs.Action.{Action}
use Rattle.ps_model.specs.Network.{Network}
use Rattle.ps_model.specs.Nodes.{nodes_of_step}
use Rattle.ps_model.specs.Sound.{IsSound}
use Rattle.ps_model.proofs.Counting.{few_steps}

pub length_of_steps : {X Y : Type 0} (f : X → List Y) (count : X → ℕ) (xs : List X) → ((k : ℕ) (x : X) → slice_get xs k ≡ Some x → length (f x) ≡ count x) →
    length (flat_map f xs) ≡ sum_by count xs
length_of_steps f count [] each = refl
length_of_steps f count (x ∷ xs) each =
    omega (
      arith,
      length-append (f x) (flat_map f xs),
      each 0 x refl,
      length_of_steps f count xs (λ k y at. each (suc k) y at),
      sum_by-cons count x xs,
    )

-- of so many pins from pin j on
pub length_of_pins : {X Y : Type 0} (f : ℕ → List Y) (count : X → ℕ) (args : List X) (default : X) (n j : ℕ) → ((i : ℕ) → length (f i) ≡ count (get_or args i default)) →
    j + n ≤ length args → length (flat_map f (range_with_len j n)) ≡ sum_by count (take n (drop j args))
length_of_pins f count args default zero j each low = refl
length_of_pins f count args default (suc n) j each low =
    let inside : j < length args = omega arith in
    let a = get_or args j default in
    let rest : take (suc n) (drop j args) ≡ a ∷ take n (drop (j + 1) args) = ap (take (suc n)) (drop_more args j default inside) in
    let here = each j in
    let later = length_of_pins f count args default n (j + 1) each (omega arith) in
    omega (
      arith,
      length-append (f j) (flat_map f (range_with_len (j + 1) n)),
      here,
      later,
      ap (sum_by count) rest ∙ sum_by-cons count a (take n (drop (j + 1) args)),
    )

-- ---- code with at most 5 bytes for each node of its values and 37 more for each step is short
steps_within : {Y : Type 0} (size_all : List Y → ℕ) (f : Action → List Y) → size_all [] ≡ 0 → ((a b : List Y) → size_all (a ++ b) ≡ size_all a + size_all b) →
    (steps : List Action) → ((k : ℕ) (a : Action) → slice_get steps k ≡ Some a → size_all (f a) ≤ 5 * length (nodes_of_step a) + 37) →
    size_all (flat_map f steps) ≤ 5 * length (flat_map nodes_of_step steps) + 37 * length steps
steps_within size_all f none both [] each = omega (arith, none)
steps_within size_all f none both (a ∷ rest) each =
    omega (
      arith,
      both (f a) (flat_map f rest),
      each 0 a refl,
      steps_within size_all f none both rest (λ k b at. each (suc k) b at),
      length-append (nodes_of_step a) (flat_map nodes_of_step rest),
    )

pub steps_small : {Y : Type 0} (size_all : List Y → ℕ) (f : Action → List Y) → size_all [] ≡ 0 → ((a b : List Y) → size_all (a ++ b) ≡ size_all a + size_all b) →
    (net : Network) → IsSound net → ((k : ℕ) (a : Action) → slice_get net.steps k ≡ Some a → size_all (f a) ≤ 5 * length (nodes_of_step a) + 37) →
    size_all (flat_map f net.steps) + 1 < 2 ^ 32
steps_small size_all f none both net sound each =
    omega (arith, steps_within size_all f none both net.steps each, sound.few_nodes, few_steps net sound, sound.few_signals)
