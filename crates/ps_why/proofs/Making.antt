-- Which step makes a fact.
use Rattle.std.proofs.Common.{◌≡◌, ◌∙◌, ◌+◌, ◌<◌, ◌≤◌, ℕ, true, false, sym, inl, inr, refl, arith}
use Rattle.std.specs.Prelude.{nat_le, nat_lt}
use Rattle.std.proofs.lemmas.Bool.{and_from, eq-eqb, false≢true, le-leb, lt-ltb}
use Rattle.ps_model.proofs.Once.{any_at}
use Rattle.ps_model.specs.Action.{assigns, calls}
use Rattle.ps_model.specs.Blocks.{output_count}
use Rattle.ps_model.specs.Network.{Network, drives, first_pin, instance_count, is_driven, kind_at}
use Rattle.ps_model.specs.Sound.{IsSound}
use Rattle.ps_model.specs.declared.driver.Driver.{Driver}
use Rattle.ps_model.specs.declared.driver.Driver.TheVariants.{Assigned, Output}
use Rattle.ps_why.specs.Driving.{driving_step}
use Rattle.ps_why.specs.Drivers.{IsCalledAt, IsDrivenAt, IsDrivenBy}

-- what drives a signal does so at its step
pub by_driver : (net : Network) (s : ℕ) (d : Driver) → IsDrivenBy net s d → IsDrivenAt net s (driving_step d)
by_driver net s (Assigned k) by = inl by
by_driver net s (Output i j k) by = inr (i, j, (by.0, by.1), by.2)

-- where a step drives a signal, it is driven
driven_at : (net : Network) (s k : ℕ) → IsDrivenAt net s k → is_driven net s ≡ true
driven_at net s k (inl (e, at)) = any_at (drives net s) net.steps k (assigns s e) at (eq-eqb s s refl)
driven_at net s k (inr (i, j, (args, at), out)) =
    let low : first_pin net i ≤ s = omega (arith, out.place) in
    let high : s < first_pin net i + output_count (kind_at net i) = omega (arith, out.place, out.output) in
    any_at (drives net s) net.steps k (calls i args) at
    (and_from (nat_le (first_pin net i) s) (nat_lt s (first_pin net i + output_count (kind_at net i)))
    (le-leb (first_pin net i) s low) (lt-ltb s (first_pin net i + output_count (kind_at net i)) high))

-- no step drives what nothing drives
pub none_drives : (net : Network) (s : ℕ) → is_driven net s ≡ false → (k : ℕ) → IsDrivenAt net s k → ⊥
none_drives net s off k made = false≢true (sym off ∙ driven_at net s k made)

-- no step calls what is past the instances
pub none_calls : (net : Network) → IsSound net → (i : ℕ) → instance_count net ≤ i → (k : ℕ) → IsCalledAt net i k → ⊥
none_calls net sound i past k (args, at) = absurd (omega (arith, past, sound.instances k i args at))
