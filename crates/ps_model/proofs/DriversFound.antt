-- The driver of a signal is found among the first steps that are noted.
use Rattle.std.proofs.Common.{◌≡◌, ℕ, ◌+◌, ◌-◌, ◌≤◌, ◌<◌, Bool, true, false, List, take, length, Option, Some, None, refl, sym, ap, ◌∙◌, subst, arith, ◌&&◌}
use Rattle.std.specs.Prelude.{slice_get, slice_index, position, nat_le, nat_lt}
use Rattle.std.specs.Option.{option_map, option_and_then}
use Rattle.std.proofs.lemmas.Option.{get_or_from_slice_get, slice_get_within}
use Rattle.std.proofs.lemmas.Bool.{false≢true, true≢false, eqb-true, and_from, le-leb, lt-leb, lt-ltb}
use Rattle.ps_model.specs.declared.driver.Driver.{Driver}
use Rattle.ps_model.specs.declared.driver.Driver.TheVariants.{Assigned, Output}
use Rattle.ps_model.specs.declared.named.Instance.{Instance}
use Rattle.ps_model.specs.Action.{Action, assigns, calls}
use Rattle.ps_model.specs.Blocks.{output_count}
use Rattle.ps_model.specs.Network.{Network, declared_count, instance_count, signal_count, kind_at, first_pin, drives, is_call_of, no_instance}
use Rattle.ps_model.specs.Named.{pin_owners}
use Rattle.ps_model.specs.Sound.{IsSound}
use Rattle.ps_model.specs.FirstSteps.{is_assignment_to, is_call}
use Rattle.ps_model.specs.Drivers.{driver_by, driver}
use Rattle.ps_model.proofs.Once.{any_of_one, place_of}
use Rattle.ps_model.proofs.OneSolution.{first_pin_range}
use Rattle.ps_model.proofs.Counting.{few_steps, length-pin_types}
use Rattle.ps_model.proofs.Placing.{all_signals}
use Rattle.ps_model.proofs.Owners.{count_outputs, Owns, owner_of_place}
use Rattle.ps_model.proofs.Positions.{found_at, none_found, none_found_from, position_alone}

same_call : (net : Network) (i : ℕ) (a : Action) → is_call_of net i a ≡ is_call i a
same_call net i (assigns t e) = refl
same_call net i (calls j args) = refl

module _ (net : Network) (sound : IsSound net) where
  abbrev driver_at : ℕ → ℕ → Option Driver
  driver_at s k = option_map (driver_by net s k) (slice_get net.steps k)

  -- a step that drives a signal is its driver
  pub driver_is : (s k : ℕ) (a : Action) → slice_get net.steps k ≡ Some a → drives net s a ≡ true → driver net s ≡ Some (driver_by net s k a)
  driver_is s k a at here =
      ap (option_and_then (driver_at s)) (position_alone (drives net s) net.steps k a (sound.one_driver s) at here)
      ∙ ap (option_map (driver_by net s k)) at

  assigns_it : (s k : ℕ) (a : Action) → slice_get net.steps k ≡ Some a → is_assignment_to s a ≡ true → driver net s ≡ Some (Assigned k)
  assigns_it s k (assigns t e) at here = driver_is s k (assigns t e) at here
  assigns_it s k (calls i args) at here = absurd (false≢true here)

  -- the step that assigns a signal is its driver
  pub assigned_driver : (s k : ℕ) → position (is_assignment_to s) net.steps ≡ Some k → driver net s ≡ Some (Assigned k)
  assigned_driver s k h =
      let found = found_at (is_assignment_to s) net.steps k h in assigns_it s k found.0 found.1 found.2

  drives_not : (s k : ℕ) (a : Action) → s < declared_count net → slice_get net.steps k ≡ Some a → is_assignment_to s a ≡ false → drives net s a ≡ false
  drives_not s k (assigns t e) declared at not_it = not_it
  drives_not s k (calls i args) declared at not_it =
      let range = first_pin_range net sound i (sound.instances k i args at) in
      ap (λ b. b && nat_lt s (first_pin net i + output_count (kind_at net i))) (lt-leb (first_pin net i) s (omega arith))

  -- a declared signal that no step assigns has no driver
  pub no_driver : (s : ℕ) → s < declared_count net → position (is_assignment_to s) net.steps ≡ None → driver net s ≡ None
  no_driver s declared h =
      ap (option_and_then (driver_at s))
      (none_found_from (drives net s) net.steps (λ k a at. drives_not s k a declared at (none_found (is_assignment_to s) net.steps h k a at)))

  calls_it : (s i k : ℕ) (a : Action) → declared_count net ≤ s → Owns net.instances (s - declared_count net) i → slice_get net.steps k ≡ Some a → is_call i a ≡ true →
      driver net s ≡ Some (Output i (s - declared_count net - count_outputs (take i net.instances)) k)
  calls_it s i k (assigns t e) past owns at here = absurd (false≢true here)
  calls_it s i k (calls j args) past owns at here =
      let same : j ≡ i = eqb-true j i here in
      let call : slice_get net.steps k ≡ Some (calls i args) = at ∙ ap (λ n. Some (calls n args)) same in
      let kind : output_count (kind_at net i) ≡ output_count owns.instance.kind =
      ap (λ (x : Instance). output_count x.kind) (get_or_from_slice_get net.instances i owns.instance no_instance owns.stands) in
      let begins = owns.begins in
      let ends = owns.ends in
      let first : first_pin net i ≡ declared_count net + count_outputs (take i net.instances) = refl in
      let place : s - first_pin net i ≡ s - declared_count net - count_outputs (take i net.instances) = omega arith in
      driver_is s k (calls i args) call
      (and_from (nat_le (first_pin net i) s) (nat_lt s (first_pin net i + output_count (kind_at net i)))
      (le-leb (first_pin net i) s (omega arith)) (lt-ltb s (first_pin net i + output_count (kind_at net i)) (omega arith)))
      ∙ ap (λ n. Some (Output i n k)) place

  -- the call of the instance of an output is the output's driver
  pub output_driver : (s i k : ℕ) → declared_count net ≤ s → Owns net.instances (s - declared_count net) i → position (is_call i) net.steps ≡ Some k →
      driver net s ≡ Some (Output i (s - declared_count net - count_outputs (take i net.instances)) k)
  output_driver s i k past owns h =
      let found = found_at (is_call i) net.steps k h in calls_it s i k found.0 past owns found.1 found.2

  -- each instance is called
  pub is_called : (i : ℕ) → i < instance_count net → position (is_call i) net.steps ≡ None → ⊥
  is_called i inside h =
      let here = place_of (is_call_of net i) net.steps (any_of_one (is_call_of net i) net.steps (sound.called_once i inside)) in
      true≢false (sym here.3 ∙ same_call net i here.1 ∙ none_found (is_call i) net.steps h here.0 here.1 here.2)

  -- a step that passes a test has a small number
  pub found_small : (p : Action → Bool) (k : ℕ) → position p net.steps ≡ Some k → k < signal_count net
  found_small p k h =
      let found = found_at p net.steps k h in
      let inside = slice_get_within net.steps k found.0 found.1 in
      omega (arith, few_steps net sound)

  -- the instance that is kept for an output owns it
  pub owner_owns : (s i : ℕ) → declared_count net ≤ s → s < signal_count net → i ≡ slice_index (pin_owners net.instances) (s - declared_count net) →
      Owns net.instances (s - declared_count net) i
  owner_owns s i past inside is =
      let place : s - declared_count net < count_outputs net.instances = omega (arith, all_signals net, length-pin_types net.instances) in
      let found = owner_of_place 0 net.instances (s - declared_count net) place in
      let kept : slice_index (pin_owners net.instances) (s - declared_count net) ≡ 0 + found.0 = found.1 in
      let same : found.0 ≡ i = omega arith in
      subst (λ n. Owns net.instances (s - declared_count net) n) same found.2

pub owner_inside : (xs : List Instance) (p i : ℕ) → Owns xs p i → i < length xs
owner_inside xs p i owns = slice_get_within xs i owns.instance owns.stands
