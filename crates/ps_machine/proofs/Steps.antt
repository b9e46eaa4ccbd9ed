-- The step at which a signal gets its value, by its driver, and the step that calls an instance.
use Rattle.std.proofs.Common.{◌≡◌, ◌∙◌, ◌||◌, ℕ, zero, suc, Bool, true, false, List, [], ◌∷◌, Option, Some, None, refl, sym, ap, arith, take, length}
use Rattle.std.specs.Prelude.{nat_le, nat_lt, slice_get, option_map, position, ◌&&◌, ◌+◌, ◌-◌, ◌≤◌, ◌<◌}
use Rattle.std.specs.List.{list_any, position_from}
use Rattle.std.proofs.lemmas.Bool.{and_from, le-leb, lt-ltb}
use Rattle.std.proofs.lemmas.Iterator.Adapters.{position_from-zero}
use Rattle.std.proofs.lemmas.Option.{slice_get_within}
use Rattle.std.specs.Option.{option_and_then, option_map_or}
use Rattle.ps_model.specs.declared.driver.Driver.{Driver}
use Rattle.ps_model.specs.declared.driver.Driver.TheVariants.{Output}
use Rattle.ps_model.specs.declared.kind.Kind.{Kind}
use Rattle.ps_model.specs.Action.{Action, Actual, assigns, calls}
use Rattle.ps_model.specs.Blocks.{output_count}
use Rattle.ps_model.specs.Drivers.{driver, driver_by}
use Rattle.ps_model.specs.Network.{Network, drives, first_pin, input_count, instance_count, is_call_of, is_new, kind_at, signal_count}
use Rattle.ps_model.specs.Sound.{IsSound}
use Rattle.ps_model.proofs.DriversFound.{driver_is}
use Rattle.ps_model.proofs.FirstPinBound.{first_pin-bound}
use Rattle.ps_model.proofs.Once.{any_of_one, place_of}
use Rattle.ps_model.proofs.OneSolution.{call_is}
use Rattle.ps_model.proofs.Positions.{found_at, none_found_from, position_alone}
use Rattle.ps_machine.specs.Calls.{call_step}
use Rattle.ps_machine.specs.Drivers.{step_of}

-- none is found before where the list starts
not_early : {X : Type 0} (p : X → Bool) (n m : ℕ) (xs : List X) → n ≤ m → option_map_or (λ j. nat_lt j n) (position_from p m xs) false ≡ false
not_early p n m [] le = refl
not_early p n m (x ∷ xs) le = go (p x) refl (not_early p n (m + 1) xs (omega arith))
  where
    go : (b : Bool) → p x ≡ b → option_map_or (λ j. nat_lt j n) (position_from p (m + 1) xs) false ≡ false →
        option_map_or (λ j. nat_lt j n) (position_from p m (x ∷ xs)) false ≡ false
    go true e rest = rw e (grind arith)
    go false e rest = rw e rest

found_from : {X : Type 0} (p : X → Bool) (k i n : ℕ) (xs : List X) → n ≡ i + k →
    list_any p (take k xs) ≡ option_map_or (λ j. nat_lt j n) (position_from p i xs) false
found_from p zero i n [] e = refl
found_from p (suc k) i n [] e = refl
found_from p zero i n (x ∷ xs) e = sym (not_early p n i (x ∷ xs) (omega arith))
found_from p (suc k) i n (x ∷ xs) e = go (p x) refl (found_from p k (i + 1) n xs (omega arith))
  where
    go : (b : Bool) → p x ≡ b → list_any p (take k xs) ≡ option_map_or (λ j. nat_lt j n) (position_from p (i + 1) xs) false →
        list_any p (take (suc k) (x ∷ xs)) ≡ option_map_or (λ j. nat_lt j n) (position_from p i (x ∷ xs)) false
    go true h rest = rw h (grind arith)
    go false h rest = rw h rest

-- one of the first k passes where the first that passes is before k
pub found_before : {X : Type 0} (p : X → Bool) (xs : List X) (k : ℕ) → list_any p (take k xs) ≡ option_map_or (λ i. nat_lt i k) (position p xs) false
found_before p xs k =
    found_from p k 0 k xs (omega arith) ∙ ap (λ o. option_map_or (λ i. nat_lt i k) o false) (sym (position_from-zero p xs))

-- the step of a driver is its place
step_by : (net : Network) (s k : ℕ) (a : Action) → step_of (driver_by net s k a) ≡ k
step_by net s k (assigns t e) = refl
step_by net s k (calls i args) = refl

-- a step is before k
abbrev is_early : ℕ → Option ℕ → Bool
is_early k o = option_map_or (λ i. nat_lt i k) o false

-- the driver of a signal at the place where one was found
abbrev driver_found : Network → ℕ → Option ℕ → Option Driver
driver_found net s o = option_and_then (λ j. option_map (driver_by net s j) (slice_get net.steps j)) o

-- the driver's step is before k where one of the first k steps drives the signal
pub driven_before : (net : Network) (s k : ℕ) → is_early k (option_map step_of (driver net s)) ≡ list_any (drives net s) (take k net.steps)
driven_before net s k = go (position (drives net s) net.steps) refl
  where
    go : (o : Option ℕ) → position (drives net s) net.steps ≡ o →
        is_early k (option_map step_of (driver net s)) ≡ list_any (drives net s) (take k net.steps)
    go None h =
        ap (λ o. is_early k (option_map step_of (driver_found net s o))) h
        ∙ sym (found_before (drives net s) net.steps k ∙ ap (is_early k) h)
    go (Some j) h =
        let found = found_at (drives net s) net.steps j h in
        ap (λ o. is_early k (option_map step_of (driver_found net s o))) h
        ∙ ap (λ x. is_early k (option_map step_of (option_map (driver_by net s j) x))) found.1
        ∙ ap (λ i. nat_lt i k) (step_by net s j found.0)
        ∙ sym (found_before (drives net s) net.steps k ∙ ap (is_early k) h)

-- no step drives what is past the signals
past_signals : (net : Network) → IsSound net → (s k : ℕ) (a : Action) → signal_count net ≤ s → slice_get net.steps k ≡ Some a → drives net s a ≡ false
past_signals net sound s k (assigns t e) past at =
    let target = sound.targets k t e at in
    grind arith
past_signals net sound s k (calls i args) past at =
    let bound = first_pin-bound net i (sound.instances k i args at) in
    let late : nat_lt s (first_pin net i + output_count (kind_at net i)) ≡ false = grind arith in
    rw late (and_false (nat_le (first_pin net i) s))
  where
    and_false : (b : Bool) → (b && false) ≡ false
    and_false true = refl
    and_false false = refl

pub not_driven : (net : Network) → IsSound net → (s k : ℕ) → signal_count net ≤ s → list_any (drives net s) (take k net.steps) ≡ false
not_driven net sound s k past =
    found_before (drives net s) net.steps k
    ∙ ap (λ o. option_map_or (λ i. nat_lt i k) o false) (none_found_from (drives net s) net.steps (λ j a at. past_signals net sound s j a past at))

-- A signal that is no input has its value of this scan already at step k where its driver's step is before k.
pub new_by : (net : Network) (s k : ℕ) (step : Option ℕ) → nat_lt s (input_count net) ≡ false → step ≡ option_map step_of (driver net s) →
    is_early k step ≡ is_new net k s
new_by net s k step other at =
    ap (is_early k) at ∙ driven_before net s k ∙ sym (ap (λ b. b || list_any (drives net s) (take k net.steps)) other)

-- A signal past all has none.
pub never_new : (net : Network) → IsSound net → (s k : ℕ) → nat_lt s (input_count net) ≡ false → signal_count net ≤ s → false ≡ is_new net k s
never_new net sound s k other past =
    sym (ap (λ b. b || list_any (drives net s) (take k net.steps)) other ∙ not_driven net sound s k past)

-- a kind has outputs
pub some_outputs : (kind : Kind) → 0 < output_count kind
unfolding output_count
some_outputs kind = omega arith

-- the step that calls an instance is the driver of the instance's first output
pub call_drives : (net : Network) → IsSound net → (i : ℕ) → i < instance_count net →
    (k : ℕ) × (call_step net i ≡ Some k) × (k < length net.steps) × (driver net (first_pin net i) ≡ Some (Output i 0 k))
call_drives net sound i inside =
    let here = place_of (is_call_of net i) net.steps (any_of_one (is_call_of net i) net.steps (sound.called_once i inside)) in
    let call = call_is net sound i here.1 here.3 in
    let first = first_pin net i in
    let count = output_count (kind_at net i) in
    let some = some_outputs (kind_at net i) in
    let drives_it : drives net first (calls i call.0) ≡ true =
    and_from (nat_le first first) (nat_lt first (first + count)) (le-leb first first (omega arith)) (lt-ltb first (first + count) (omega arith)) in
    let none : first - first ≡ 0 = omega arith in (
      here.0,
      position_alone (is_call_of net i) net.steps here.0 here.1 (omega (arith, sound.called_once i inside)) here.2 here.3,
      slice_get_within net.steps here.0 here.1 here.2,
      driver_is net sound first here.0 (calls i call.0) (here.2 ∙ ap Some call.1) drives_it ∙ ap (λ n. Some (Output i n here.0)) none,
    )

-- what stands at the step that calls an instance
pub stands_at : (net : Network) → IsSound net → (i k : ℕ) → call_step net i ≡ Some k → (args : List Actual) × (slice_get net.steps k ≡ Some (calls i args))
stands_at net sound i k h =
    let found = found_at (is_call_of net i) net.steps k h in
    let call = call_is net sound i found.0 found.2 in
    (call.0, found.1 ∙ ap Some call.1)
