-- What is seen of a scan, and when it is so.
use Rattle.std.specs.Prelude.{◌≡◌, ◌≢◌, ℕ, ◌+◌, ◌≤◌, Bool, List, Some, length, nat_le, slice_get}
use Rattle.ps_model.specs.Action.{Actual, calls}
use Rattle.ps_model.specs.Kept.{Kept, seen}
use Rattle.ps_model.specs.Network.{Network, instance_count, kind_at, signal_count}
use Rattle.ps_model.specs.Scanning.{State, block_in, limit_of, pins_under}
use Rattle.ps_model.specs.Table.{Conditions}
use Rattle.ps_machine.specs.Reading as signals
use Rattle.ps_why.specs.declared.call.CallScene.{CallScene}
use Rattle.ps_why.specs.declared.scene.Scene.{Scene}

-- a signal as a step reads it
abbrev pub read_in : Network → Scene → (k s : ℕ) → Bool
read_in net x = signals.read_in net x.signals

-- the pins of a call as its step reads them
abbrev pub pins_in : Network → Scene → (k i : ℕ) → List Actual → ℕ → Bool
pins_in net x k i args = pins_under (read_in net x k) (kind_at net i) args

-- what an instance kept of its last step
abbrev pub kept_in : CallScene → Kept
kept_in c = record {
  code = c.from;
  last_reset = c.last.reset;
  last_auxiliary = c.last.auxiliary;
  mode = c.last.mode;
  timer = 0;
}

-- what the guards of an instance see in its call
abbrev pub conditions_in : Network → Scene → (k i : ℕ) → List Actual → CallScene → Conditions
conditions_in net x k i args c = seen (kind_at net i) (pins_in net x k i args) c.elapsed (kept_in c)

-- An instance is called at its step, and its mode is one of eight.
pub record IsCallFor (net : Network) (i : ℕ) (c : CallScene) : Type 0 where
  pub args : List Actual
  pub stands : slice_get net.steps c.step ≡ Some (calls i args)
  pub mode : c.last.mode ≤ 7

-- There is a value for each signal, and a call for each instance.
pub record IsSceneFor (net : Network) (x : Scene) : Type 0 where
  pub before : length x.signals.before.now ≡ signal_count net
  pub behind : length x.signals.behind.now ≡ signal_count net
  pub each : length x.calls.now ≡ instance_count net
  pub calls : (i : ℕ) (c : CallScene) → slice_get x.calls.now i ≡ Some c → IsCallFor net i c

-- a scan: the state before it, the ms that passed since the scan before, and the state after it
module _ (net : Network) (old : State) (since : ℕ) (new : State) where
  -- An instance is so in the scan. Whether a limit has elapsed is so of a state other than Idle.
  pub record IsCallOf (i : ℕ) (c : CallScene) : Type 0 where
    pub from : (block_in old i).code ≡ c.from
    pub reset : (block_in old i).last_reset ≡ c.last.reset
    pub auxiliary : (block_in old i).last_auxiliary ≡ c.last.auxiliary
    pub mode_before : (block_in old i).mode ≡ c.last.mode
    pub elapsed : c.from ≢ 0 → (args : List Actual) → slice_get net.steps c.step ≡ Some (calls i args) →
        nat_le (limit_of (kind_at net i) args) ((block_in old i).age + since) ≡ c.elapsed
    pub code : (block_in new i).code ≡ c.code
    pub mode : (block_in new i).mode ≡ c.mode

  -- The scan is seen as it is.
  pub record IsSceneOf (x : Scene) : Type 0 where
    pub before : x.signals.before.now ≡ old.signals
    pub behind : x.signals.behind.now ≡ new.signals
    pub calls : (i : ℕ) (c : CallScene) → slice_get x.calls.now i ≡ Some c → IsCallOf i c
