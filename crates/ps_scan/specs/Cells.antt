-- What a scanner keeps between the scans of an application.
use Rattle.std.specs.Prelude.{◌≡◌, ℕ, Bool, false, List, length, map, slice_index_or}
use Rattle.ps_model.specs.declared.named.Instance.{Instance}
use Rattle.ps_model.specs.Network.{Network, signal_count, instance_count, kind_at}
use Rattle.ps_model.specs.Kept.{Kept, fresh}
use Rattle.ps_scan.specs.Instances.{KeptInstance, kept_instance, no_kept_instance}

-- A value of each signal, and what is kept of each instance.
pub record Cells : Type 0 where
  pub signals : List Bool
  pub instances : List KeptInstance

-- The value of a signal, FALSE past the signals.
abbrev pub signal_at : Cells → ℕ → Bool
signal_at w s = slice_index_or w.signals s false

-- An instance and what is kept of it, and a fresh one past the instances.
abbrev pub instance_at : Cells → ℕ → KeptInstance
instance_at w i = slice_index_or w.instances i no_kept_instance

-- What is kept of an instance.
abbrev pub kept_at : Cells → ℕ → Kept
kept_at w i = (instance_at w i).kept

-- Declared instances before their first step.
abbrev pub first_instances : List Instance → List KeptInstance
first_instances instances = map (λ (i : Instance). kept_instance i.kind fresh) instances

-- The cells have the sizes and the kinds of the application.
pub record IsFor (net : Network) (w : Cells) : Type 0 where
  pub signal_each : length w.signals ≡ signal_count net
  pub instance_each : length w.instances ≡ instance_count net
  pub kinds : (i : ℕ) → (instance_at w i).kind ≡ kind_at net i
