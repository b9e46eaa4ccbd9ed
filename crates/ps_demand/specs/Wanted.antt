-- How long the demand of each signal is wanted: up to the last step that reads it for something that is wanted itself.
use Rattle.std.specs.Prelude.{◌≡◌, ℕ, ◌+◌, ◌<◌, ◌≤◌, Bool, true, false, nat_le, List, Option, Some, None, length}
use Rattle.std.specs.Prelude.{slice_get}
use Rattle.std.specs.List.{flat_map, list_any}
use Rattle.ps_model.specs.Formula.{Formula}
use Rattle.ps_model.specs.Action.{Actual, assigns, calls}
use Rattle.ps_model.specs.FirstSteps.{step_noted}
use Rattle.ps_model.specs.Network.{Network, signal_count}
use Rattle.ps_model.specs.Typing.{is_safe_signal}
use Rattle.ps_model.specs.Values.{reads, values_at_pin}

-- whether step k or a later one is the last that is noted
abbrev pub is_from : ℕ → Option ℕ → Bool
is_from k None = false
is_from k (Some last) = nat_le k last

-- whether step k or a later one wants the demand of a signal, where these are the last steps that do
abbrev pub is_wanted : List (Option ℕ) → ℕ → ℕ → Bool
is_wanted last k s = is_from k (step_noted last s)

-- no step before step k is noted
abbrev pub IsLate : ℕ → Option ℕ → Type 0
IsLate k None = Unit {0}
IsLate k (Some last) = k ≤ last

-- step k wants what it reads: where it assigns a safe signal that is wanted after it, what the value reads, and where
-- it is a call, what its pins read
pub record WantsReads (net : Network) (k : ℕ) (last : List (Option ℕ)) : Type 0 where
  pub assigned : (t s : ℕ) (e : Formula) → slice_get net.steps k ≡ Some (assigns t e) → is_safe_signal net t ≡ true →
      is_wanted last (k + 1) t ≡ true → s < signal_count net → reads s e ≡ true → is_wanted last k s ≡ true
  pub called : (i s : ℕ) (args : List Actual) → slice_get net.steps k ≡ Some (calls i args) → s < signal_count net →
      list_any (reads s) (flat_map values_at_pin args) ≡ true → is_wanted last k s ≡ true

-- The last steps that want the demands of signals, by the steps from k on. The signals from `first` on to `end` are
-- wanted after all steps, and each of these steps wants what it reads.
pub record AreLast (net : Network) (k first end : ℕ) (last : List (Option ℕ)) : Type 0 where
  pub long : length last ≡ signal_count net
  pub late : (s : ℕ) → s < signal_count net → IsLate k (step_noted last s)
  pub after_all : (s : ℕ) → first ≤ s → s < end → is_wanted last (length net.steps) s ≡ true
  pub reading : (j : ℕ) → k ≤ j → WantsReads net j last
