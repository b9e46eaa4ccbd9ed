-- SAFEBOOL and BOOL: which values are safe, and which applications are accepted. PLCopen TC5 (functional enabling);
-- that an OR is safe where each operand is, is profile.
use Rattle.std.specs.Prelude.{◌≡◌, ◌≢◌, ℕ, Bool, true, false, List, ◌-◌, ◌&&◌, ◌||◌, ◌<◌, if◌then◌else◌, length, nat_lt}
use Rattle.std.specs.Prelude.{slice_index_or, slice_get, Some}
use Rattle.ps_model.specs.declared.kind.Ty.{Ty}
use Rattle.ps_model.specs.declared.kind.Ty.TheVariants.{Safe, Bool as Plain, Time}
use Rattle.ps_model.specs.Formula.{Formula, Formulas, signal, all_of, any_of, no_operand, operand}
use Rattle.ps_model.specs.Action.{Actual, free, literal, time, wired, assigns, calls}
use Rattle.ps_model.specs.Network.{Network, kind_at, declared_signals, declared_count, no_signal}
use Rattle.ps_model.specs.Named.{pin_types}
use Rattle.ps_model.specs.Scanning.{pin_at}

-- the type of a signal: a declared one has the type of its declaration, and a pin output that of its pin
abbrev pub signal_type : Network → ℕ → Ty
signal_type net s =
    if nat_lt s (declared_count net) then (slice_index_or (declared_signals net) s no_signal).ty
    else slice_index_or (pin_types net.instances) (s - declared_count net) Plain

-- a type is safe where it is SAFEBOOL
abbrev pub is_safe_type : Ty → Bool
is_safe_type Safe = true
is_safe_type _ = false

-- a signal is safe where its type is SAFEBOOL
abbrev pub is_safe_signal : Network → ℕ → Bool
is_safe_signal net s = is_safe_type (signal_type net s)

-- an AND is safe where at least one operand is, and an OR where every operand is
abbrev mutual
  pub safe : Network → Formula → Bool
  safe net (signal s) = is_safe_signal net s
  safe net (all_of es) = some_safe net es
  safe net (any_of es) = each_safe net es

  -- at least one operand is safe
  pub some_safe : Network → Formulas → Bool
  some_safe net no_operand = false
  some_safe net (operand e es) = safe net e || some_safe net es

  -- every operand is safe
  pub each_safe : Network → Formulas → Bool
  each_safe net no_operand = true
  each_safe net (operand e es) = safe net e && each_safe net es

-- what may stand at a pin of a type
abbrev pub MayStand : Network → Ty → Actual → Type 0
MayStand net ty free = Unit {0}
MayStand net ty (literal b) = ty ≢ Time
MayStand net ty (time t) = ty ≡ Time
MayStand net ty (wired e) = (ty ≢ Time) × (ty ≡ Safe → safe net e ≡ true)

-- each value assigned to a SAFEBOOL signal is safe, and at each pin stands what may stand there
pub record Accepted (net : Network) : Type 0 where
  pub assigned : (k t : ℕ) (e : Formula) → slice_get net.steps k ≡ Some (assigns t e) → is_safe_signal net t ≡ true → safe net e ≡ true
  pub at_pins : (k i j : ℕ) (args : List Actual) → slice_get net.steps k ≡ Some (calls i args) → j < length args →
      MayStand net (pin_at (kind_at net i) j).ty (slice_index_or args j free)
