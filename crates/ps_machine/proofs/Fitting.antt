-- What an accepted application gives for the code of its steps.
use Rattle.std.proofs.Common.{◌≡◌, ℕ, zero, suc, ◌+◌, ◌^◌, ◌<◌, ◌≤◌, Bool, true, false, List, [], ◌∷◌, refl, sym, ap, ◌∙◌, inl, inr, arith, Some}
use Rattle.std.specs.Prelude.{slice_index_or, slice_get, ◌||◌, ◌==◌, count_by}
use Rattle.std.specs.List.{list_any}
use Rattle.std.proofs.lemmas.Bool.{false≢true, cases_eq, cond-true, cond-false, eq-eqb, ne_eqb}
use Rattle.ps_model.specs.Action.{Action, Actual, free, assigns, calls}
use Rattle.ps_model.specs.Blocks.{output_count}
use Rattle.ps_model.specs.Budgets.{boolean_count}
use Rattle.ps_model.specs.Network.{Network, signal_count, instance_count, kind_at, first_pin, is_call_of}
use Rattle.ps_model.specs.Scanning.{pins_under, limit_of}
use Rattle.ps_model.specs.Sound.{IsSound}
use Rattle.ps_model.specs.Typing.{Accepted}
use Rattle.ps_model.proofs.CallLimits.{limit_small}
use Rattle.ps_model.proofs.Once.{none_after, any_at}
use Rattle.ps_model.proofs.OneSolution.{first_pin_range}
use Rattle.ps_machine.specs.Standing.{limit_from, limit_in}
use Rattle.ps_machine.proofs.Fine.{IsFine, IsFinePin, fine_value, fine_pin}
use Rattle.ps_machine.proofs.CalledOnce.{fewer, called_once}
use Rattle.ps_machine.proofs.PastPins.{few_pins, past_pin}

-- what a call asks of its application
pub record CallFits (net : Network) (i : ℕ) (args : List Actual) : Type 0 where
  pub within : i < instance_count net
  pub room : first_pin net i + output_count (kind_at net i) ≤ signal_count net
  pub pins : (j : ℕ) → IsFinePin (signal_count net) (slice_index_or args j free)
  pub past : (v : ℕ → Bool) (j : ℕ) → boolean_count (kind_at net i) ≤ j → pins_under v (kind_at net i) args j ≡ false
  pub few : boolean_count (kind_at net i) ≤ 13
  pub limit : limit_of (kind_at net i) args < 2 ^ 32
  pub limit_is : limit_in net i ≡ limit_of (kind_at net i) args

-- what a step asks
abbrev pub StepFits : Network → Action → Type 0
StepFits net (assigns t e) = (t < signal_count net) × IsFine (signal_count net) 34 e
StepFits net (calls i args) = CallFits net i args

abbrev pub AllFit : Network → List Action → Type 0
AllFit net [] = Unit {0}
AllFit net (a ∷ rest) = StepFits net a × AllFit net rest

-- the limit of an instance is that of any call of it, since there is one at most
limit_found : (net : Network) (i : ℕ) (args : List Actual) (steps : List Action) (k : ℕ) → count_by (is_call_of net i) steps ≤ 1 → slice_get steps k ≡ Some (calls i args) →
    limit_from net i steps ≡ limit_of (kind_at net i) args
limit_found net i args [] k once at = absurd cc
limit_found net i args (assigns t e ∷ rest) zero once at = absurd cc
limit_found net i args (assigns t e ∷ rest) (suc k) once at = limit_found net i args rest k (fewer (is_call_of net i) (assigns t e) rest once) at
limit_found net i args (calls j given ∷ rest) zero once at =
    let same : j ≡ i = cc in
    let same' : given ≡ args = cc in
    cond-true (j == i) (limit_of (kind_at net j) given) (limit_from net i rest) (eq-eqb j i same)
    ∙ ap (λ x. limit_of (kind_at net x) given) same ∙ ap (limit_of (kind_at net i)) same'
limit_found net i args (calls j given ∷ rest) (suc k) once at =
    elim (cases_eq j i) [
      | inl same ↦
          let here : is_call_of net i (calls j given) ≡ true = eq-eqb j i same in
          let later : list_any (is_call_of net i) rest ≡ true = any_at (is_call_of net i) rest k (calls i args) at (eq-eqb i i refl) in
          absurd (false≢true (sym (none_after (is_call_of net i) (calls j given ∷ []) rest once (ap (λ b. b || false) here)) ∙ later))
      | inr other ↦
          cond-false (j == i) (limit_of (kind_at net j) given) (limit_from net i rest) (ne_eqb j i other)
          ∙ limit_found net i args rest k (fewer (is_call_of net i) (calls j given) rest once) at
    ]

module _ (net : Network) (sound : IsSound net) (accepted : Accepted net) where
  pub step_fits : (k : ℕ) (a : Action) → slice_get net.steps k ≡ Some a → StepFits net a
  step_fits k (assigns t e) at =
      let range = sound.targets k t e at in
      let within : t < signal_count net = omega arith in
      (within, fine_value net sound k (assigns t e) e 0 at refl)
  step_fits k (calls i args) at =
      let within = sound.instances k i args at in
      record {
        within = within;
        room = (first_pin_range net sound i within).1;
        pins = fine_pin net sound k i args at;
        past = past_pin net sound accepted k i args at;
        few = few_pins (kind_at net i);
        limit = limit_small net sound k i args at;
        limit_is = limit_found net i args net.steps k (called_once net sound i) at;
      }

  all_fit_from : (steps : List Action) → ((k : ℕ) (a : Action) → slice_get steps k ≡ Some a → StepFits net a) → AllFit net steps
  all_fit_from [] h = tt
  all_fit_from (a ∷ rest) h = (h 0 a refl, all_fit_from rest (λ k b at. h (suc k) b at))

  pub all_fit : AllFit net net.steps
  all_fit = all_fit_from net.steps step_fits
