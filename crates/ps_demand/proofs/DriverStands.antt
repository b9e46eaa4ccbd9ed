-- A signal has a driver before a step exactly where its driver's number is below that of the step.
use Rattle.std.proofs.Common.{◌≡◌, ℕ, ◌+◌, ◌-◌, subst, arith, ◌≤◌, ◌<◌, Bool, true, List, take, Option, Some, None, refl, sym, ap, ◌∙◌, inl, inr, ⊎_elim}
use Rattle.std.specs.Prelude.{slice_get, position, nat_le, nat_lt, count_by}
use Rattle.std.specs.List.{list_any}
use Rattle.std.specs.Option.{option_map, option_and_then}
use Rattle.std.proofs.lemmas.Bool.{true≢false, cases_Bool, cases_lt, lt-ltb, le-ltb, and_parts, leb-true, ltb-true}
use Rattle.ps_model.specs.declared.driver.Driver.{Driver}
use Rattle.ps_model.specs.Action.{Action, assigns, calls}
use Rattle.ps_model.specs.declared.driver.Driver.TheVariants.{Output}
use Rattle.ps_model.specs.Blocks.{output_count}
use Rattle.ps_model.specs.Network.{Network, drives, signal_count, instance_count, kind_at, first_pin}
use Rattle.ps_model.specs.Drivers.{driver_by, driver}
use Rattle.ps_model.specs.Sound.{IsSound}
use Rattle.ps_model.proofs.Once.{place_of, any_of_first, none_of_rest}
use Rattle.ps_model.proofs.Positions.{fails_later, fails_before, found_at, none_found, none_found_from}
use Rattle.ps_model.proofs.OneSolution.{driven_range}
use Rattle.ps_demand.specs.Passes.{step_of, stands_before}

-- where at most one passes, one is among the first k exactly where its place is below k
among_first : {X : Type 0} (p : X → Bool) (xs : List X) (few : count_by p xs ≤ 1) (k m : ℕ) (x : X) → slice_get xs m ≡ Some x → p x ≡ true →
    list_any p (take k xs) ≡ nat_lt m k
among_first p xs few k m x at here =
    elim (cases_lt m k) [
      | inl below ↦
          ⊎_elim
          (λ yes. yes ∙ sym (lt-ltb m k below))
          (λ none. absurd (true≢false (sym here ∙ fails_before p xs k m x none below at)))
          (cases_Bool (list_any p (take k xs)))
      | inr past ↦
          ⊎_elim
          (λ yes. absurd (true≢false (sym here ∙ fails_later p xs k m x (none_of_rest p xs k few yes) past at)))
          (λ none. none ∙ sym (le-ltb m k past))
          (cases_Bool (list_any p (take k xs)))
    ]

module _ (net : Network) (sound : IsSound net) (s k : ℕ) where
  its_step : (m : ℕ) (a : Action) → step_of (driver_by net s m a) ≡ m
  its_step m (assigns t e) = refl
  its_step m (calls i args) = refl

  by_position : (o : Option ℕ) → position (drives net s) net.steps ≡ o →
      list_any (drives net s) (take k net.steps) ≡ stands_before k (option_and_then (λ m. option_map (driver_by net s m) (slice_get net.steps m)) o)
  by_position None h =
      ⊎_elim
      (λ yes.
      let here = place_of (drives net s) net.steps (any_of_first (drives net s) net.steps k yes) in
      absurd (true≢false (sym here.3 ∙ none_found (drives net s) net.steps h here.0 here.1 here.2)))
      (λ none. none)
      (cases_Bool (list_any (drives net s) (take k net.steps)))
  by_position (Some m) h =
      let found = found_at (drives net s) net.steps m h in
      among_first (drives net s) net.steps (sound.one_driver s) k m found.0 found.1 found.2
      ∙ ap (λ n. nat_lt n k) (sym (its_step m found.0))
      ∙ ap (λ o. stands_before k (option_map (driver_by net s m) o)) (sym found.1)

  pub driven_before : list_any (drives net s) (take k net.steps) ≡ stands_before k (driver net s)
  driven_before = by_position (position (drives net s) net.steps) refl

-- ---- what a driver may be
module _ (net : Network) (sound : IsSound net) (s : ℕ) where
  abbrev driver_at : ℕ → Option Driver
  driver_at m = option_map (driver_by net s m) (slice_get net.steps m)

  -- nothing drives what is past the signals
  pub driver_past : signal_count net ≤ s → driver net s ≡ None
  driver_past past =
      ap (option_and_then driver_at)
      (none_found_from (drives net s) net.steps (λ k a at.
      ⊎_elim
      (λ here. let range = driven_range net sound k a s at here in absurd (omega arith))
      (λ not_here. not_here)
      (cases_Bool (drives net s a))))

  outputs_of : (m : ℕ) (a : Action) (i j k : ℕ) → slice_get net.steps m ≡ Some a → drives net s a ≡ true → driver_by net s m a ≡ Output i j k →
      (i < instance_count net) × (j < output_count (kind_at net i))
  outputs_of m (assigns t e) i j k at here is = absurd (let no : ⊥ = cc in no)
  outputs_of m (calls n args) i j k at here is =
      let same : n ≡ i = cc in
      let place : s - first_pin net n ≡ j = cc in
      let both = and_parts (nat_le (first_pin net n) s) (nat_lt s (first_pin net n + output_count (kind_at net n))) here in
      let low = leb-true (first_pin net n) s both.0 in
      let high = ltb-true s (first_pin net n + output_count (kind_at net n)) both.1 in
      let inside : n < instance_count net = sound.instances m n args at in
      let below : j < output_count (kind_at net n) = omega arith in
      let P : ℕ → Type 0 = λ x. (x < instance_count net) × (j < output_count (kind_at net x)) in
      subst P same (inside, below)

  output_by : (o : Option ℕ) → position (drives net s) net.steps ≡ o → (i j k : ℕ) → option_and_then driver_at o ≡ Some (Output i j k) →
      (i < instance_count net) × (j < output_count (kind_at net i))
  output_by None h i j k is = absurd (let no : ⊥ = cc in no)
  output_by (Some m) h i j k is =
      let found = found_at (drives net s) net.steps m h in
      let by : Some (driver_by net s m found.0) ≡ Some (Output i j k) = sym (ap (option_map (driver_by net s m)) found.1) ∙ is in
      outputs_of m found.0 i j k found.1 found.2 (let e : driver_by net s m found.0 ≡ Output i j k = cc in e)

  -- an output that drives a signal is one of its instance
  pub driver_output : (i j k : ℕ) → driver net s ≡ Some (Output i j k) → (i < instance_count net) × (j < output_count (kind_at net i))
  driver_output i j k is = output_by (position (drives net s) net.steps) refl i j k is
