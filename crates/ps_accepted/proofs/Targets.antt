-- Each output is assigned by one step.
use Rattle.std.proofs.Common.{◌≡◌, ◌+◌, ◌∙◌, ℕ, Bool, true, Option, None, Some, refl, sym, ap, arith}
use Rattle.std.specs.Prelude.{slice_get, position, nat_le, nat_lt}
use Rattle.std.specs.Option.{option_map, option_and_then}
use Rattle.std.proofs.lemmas.Bool.{true≢false, and_parts, leb-true, eqb-true, eq-eqb}
use Rattle.std.proofs.lemmas.Option.{same_Some}
use Rattle.ps_model.specs.declared.driver.Driver.TheVariants.{Assigned}
use Rattle.ps_model.specs.Action.{Action, assigns, calls}
use Rattle.ps_model.specs.Blocks.{output_count}
use Rattle.ps_model.specs.Drivers.{driver_by, driver}
use Rattle.ps_model.specs.Formula.{Formula}
use Rattle.ps_model.specs.Network.{Network, kind_at, first_pin, drives}
use Rattle.ps_model.specs.Sound.{IsSound}
use Rattle.ps_model.proofs.Once.{place_of}
use Rattle.ps_model.proofs.OneSolution.{first_pin_range}
use Rattle.ps_model.proofs.Positions.{found_at, none_found, position_alone}
use Rattle.ps_demand.specs.Lines.{IsSafeOutput}

-- a signal is assigned by this step, which is its driver
pub record Assigning (net : Network) (s : ℕ) : Type 0 where
  pub step : ℕ
  pub value : Formula
  pub assigned : slice_get net.steps step ≡ Some (assigns s value)
  pub drives_it : driver net s ≡ Some (Assigned step)

module _ (net : Network) (sound : IsSound net) (s : ℕ) (output : IsSafeOutput net s) where
  abbrev p : Action → Bool
  p = drives net s

  driver_at : (k : ℕ) (a : Action) → position p net.steps ≡ Some k → slice_get net.steps k ≡ Some a → driver net s ≡ Some (driver_by net s k a)
  driver_at k a first at = ap (option_and_then (λ m. option_map (driver_by net s m) (slice_get net.steps m))) first ∙ ap (option_map (driver_by net s k)) at

  by_action : (k : ℕ) (a : Action) → position p net.steps ≡ Some k → slice_get net.steps k ≡ Some a → p a ≡ true → Assigning net s
  by_action k (assigns t e) first at here =
      let same : t ≡ s = eqb-true t s here in
      record {
        step = k;
        value = e;
        assigned = at ∙ ap (λ x. Some (assigns x e)) same;
        drives_it = driver_at k (assigns t e) first at;
      }
  by_action k (calls i args) first at here =
      let both = and_parts (nat_le (first_pin net i) s) (nat_lt s (first_pin net i + output_count (kind_at net i))) here in
      let low = leb-true (first_pin net i) s both.0 in
      let range = first_pin_range net sound i (sound.instances k i args at) in
      absurd (omega (arith, low, range.0, output.before_locals))

  by_position : (o : Option ℕ) → position p net.steps ≡ o → Assigning net s
  by_position None h =
      let driven = place_of p net.steps (sound.outputs_driven s output.behind_inputs output.before_locals) in
      absurd (true≢false (sym driven.3 ∙ none_found p net.steps h driven.0 driven.1 driven.2))
  by_position (Some k) h =
      let found = found_at p net.steps k h in
      by_action k found.0 h found.1 found.2

  pub assigning : Assigning net s
  assigning = by_position (position p net.steps) refl

-- two steps that assign one signal are the same
pub one_target : (net : Network) → IsSound net → (s j k : ℕ) (d e : Formula) → slice_get net.steps j ≡ Some (assigns s d) → slice_get net.steps k ≡ Some (assigns s e) → j ≡ k
one_target net sound s j k d e at here =
    same_Some j k
    (sym (position_alone (drives net s) net.steps j (assigns s d) (sound.one_driver s) at (eq-eqb s s refl))
    ∙ position_alone (drives net s) net.steps k (assigns s e) (sound.one_driver s) here (eq-eqb s s refl))
