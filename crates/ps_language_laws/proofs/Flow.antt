-- An application is accepted, or it has a first breach of SAFEBOOL flow.
use Rattle.std.proofs.Common.{◌≡◌, ℕ, ◌<◌, ◌⊎◌, inl, inr, Bool, true, false, Option, None, Some, length, refl}
use Rattle.std.specs.Prelude.{slice_get, slice_index_or}
use Rattle.ps_base.specs.declared.failing.Rule.{Rule}
use Rattle.ps_base.specs.declared.failing.Rule.TheVariants.{S1, S2, S3, S4}
use Rattle.ps_model.specs.declared.kind.Ty.{Ty}
use Rattle.ps_model.specs.declared.kind.Ty.TheVariants.{Safe, Bool as Plain, Time}
use Rattle.ps_model.specs.Action.{Action, Actual, free, literal, time, wired, assigns, calls}
use Rattle.ps_model.specs.Network.{Network, kind_at}
use Rattle.ps_model.specs.Scanning.{pin_at}
use Rattle.ps_model.specs.Typing.{Accepted, MayStand, safe, is_safe_signal}
use Rattle.ps_flow.specs.Refusals.{BreaksAt, FitsStep, BreaksStep, IsFirstBreach}
use Rattle.ps_language_laws.proofs.Searching.{FirstBelow, first_below, FirstItem, first_item}

module _ (net : Network) where
  -- a thing may stand at a pin, or breaks a rule there
  at_pin : (ty : Ty) (a : Actual) → MayStand net ty a ⊎ ((rule : Rule) × BreaksAt net ty a rule)
  at_pin ty free = inl tt
  at_pin Safe (literal b) = inl (λ e. cc)
  at_pin Plain (literal b) = inl (λ e. cc)
  at_pin Time (literal b) = inr (S4, (refl, refl))
  at_pin Safe (time t) = inr (S3, (refl, λ e. cc))
  at_pin Plain (time t) = inr (S3, (refl, λ e. cc))
  at_pin Time (time t) = inl refl
  at_pin Time (wired e) = inr (S4, inr (refl, refl))
  at_pin Plain (wired e) = inl ((λ h. cc), (λ h. cc))
  at_pin Safe (wired e) = by (safe net e) refl
    where
      by : (v : Bool) → safe net e ≡ v → MayStand net Safe (wired e) ⊎ ((rule : Rule) × BreaksAt net Safe (wired e) rule)
      by true is = inl ((λ h. cc), (λ h. is))
      by false is = inr (S2, inl (refl, (refl, is)))

  abbrev BreaksSome : Action → Type 0
  BreaksSome a = (rule : Rule) × (pin : Option ℕ) × BreaksStep net a rule pin

  -- a step breaks no rule, or first breaks one at a pin
  step_decided : (a : Action) → FitsStep net a ⊎ BreaksSome a
  step_decided (assigns t e) = by (is_safe_signal net t) refl (safe net e) refl
    where
      by : (s : Bool) → is_safe_signal net t ≡ s → (v : Bool) → safe net e ≡ v → FitsStep net (assigns t e) ⊎ BreaksSome (assigns t e)
      by false plain v is = inl (λ h. cc)
      by true target true is = inl (λ h. is)
      by true target false is = inr (S1, None, (refl, target, is))
  step_decided (calls i args) = by (first_below P Q (λ j. at_pin (ty j) (pin j)) (length args))
    where
      ty : ℕ → Ty
      ty j = (pin_at (kind_at net i) j).ty

      pin : ℕ → Actual
      pin j = slice_index_or args j free

      P : ℕ → Type 0
      P j = MayStand net (ty j) (pin j)

      Q : ℕ → Type 0
      Q j = (rule : Rule) × BreaksAt net (ty j) (pin j) rule

      by : FirstBelow P Q (length args) ⊎ ((j : ℕ) → j < length args → P j) → FitsStep net (calls i args) ⊎ BreaksSome (calls i args)
      by (inl f) = inr (f.holds.0, Some f.at, (f.below, f.holds.1, f.before))
      by (inr all) = inl all

  pub flow_decided : Accepted net ⊎ ((rule : Rule) × (step : ℕ) × (pin : Option ℕ) × IsFirstBreach net rule step pin)
  flow_decided = by (first_item (λ k. FitsStep net) (λ k. BreaksSome) (λ k. step_decided) net.steps)
    where
      by : FirstItem (λ k. FitsStep net) (λ k. BreaksSome) net.steps ⊎ ((k : ℕ) (a : Action) → slice_get net.steps k ≡ Some a → FitsStep net a)
          → Accepted net ⊎ ((rule : Rule) × (step : ℕ) × (pin : Option ℕ) × IsFirstBreach net rule step pin)
      by (inl f) = let breach = f.holds in inr (breach.0, f.at, breach.1, record { action = f.item; here = f.here; breaks = breach.2; earlier = f.before })
      by (inr all) = inl (record { assigned = λ k t e at. all k (assigns t e) at; at_pins = λ k i j args at inside. all k (calls i args) at j inside })
