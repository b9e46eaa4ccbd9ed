-- What a scan makes of an instance, by its block.
use Rattle.std.specs.Prelude.{◌≡◌, ◌≢◌, ◌-◌, ◌==◌, ℕ, Bool, List, Some, length, slice_get}
use Rattle.ps_model.specs.Action.{Actual, calls}
use Rattle.ps_model.specs.Kept.{Remains, StandsBy}
use Rattle.ps_model.specs.Network.{Network, instance_count, kind_at}
use Rattle.ps_model.specs.Scanning.{Solves, State, block_in, limit_of}
use Rattle.ps_model.specs.Stored.{IsKept}
use Rattle.ps_machine.specs.Calls.{call_step}
use Rattle.ps_machine.specs.declared.signals.Signals.{Signals}
use Rattle.ps_rows.specs.Counted.{kept_of}
use Rattle.ps_rows.specs.declared.step.CountedBlock.{CountedBlock}
use Rattle.ps_why.specs.Scenes.{IsCallFor, IsCallOf}
use Rattle.ps_why.specs.declared.keeping.Stepped.{Stepped}

-- what is seen of a step from a block to another
abbrev pub stepped_as : (k : ℕ) → CountedBlock → (passed : ℕ) → CountedBlock → Stepped
stepped_as k b passed after = record {
  call = record {
    step = k;
    from = b.code;
    last = record { reset = b.last_reset; auxiliary = b.last_auxiliary; mode = b.mode };
    elapsed = b.remains - passed == 0;
    code = after.code;
    mode = after.mode;
  };
  block = after;
}

-- Where a block stands for an instance before a scan with these signals, before which so many ms passed, what is seen
-- is so in the scan, and the block after it stands for the instance after.
abbrev pub StepsSo : Network → (i : ℕ) → CountedBlock → (passed : ℕ) → Signals → Stepped → Type 0
StepsSo net i b passed x s = (old : State) (ins : List Bool) (since : ℕ) (new : State) → Solves net old ins since new →
    x.before.now ≡ old.signals → x.behind.now ≡ new.signals →
    (args : List Actual) → slice_get net.steps s.call.step ≡ Some (calls i args) →
    StandsBy (Remains (limit_of (kind_at net i) args)) (kept_of b) (block_in old i) →
    ((block_in old i).code ≢ 0 → passed ≡ since) →
    IsCallOf net old since new i s.call
    × StandsBy (Remains (limit_of (kind_at net i) args)) (kept_of s.block) (block_in new i)

-- What is kept of an instance: its call, at its one step, and a block that its kind can keep.
pub record IsKeptFor (net : Network) (i : ℕ) (s : Stepped) : Type 0 where
  pub step : call_step net i ≡ Some s.call.step
  pub call : IsCallFor net i s.call
  pub block : IsKept (kind_at net i) (kept_of s.block)

-- It is kept of each instance.
pub record AreKept (net : Network) (kept : List Stepped) : Type 0 where
  pub each : length kept ≡ instance_count net
  pub are : (i : ℕ) (s : Stepped) → slice_get kept i ≡ Some s → IsKeptFor net i s

-- What is kept stands for the instances of a state.
abbrev pub StandFor : Network → State → List Stepped → Type 0
StandFor net w kept = (i : ℕ) (s : Stepped) → slice_get kept i ≡ Some s → (args : List Actual) →
    slice_get net.steps s.call.step ≡ Some (calls i args) →
    StandsBy (Remains (limit_of (kind_at net i) args)) (kept_of s.block) (block_in w i)

-- In every scan with these signals, before which so many ms passed, and before which what was kept stood for the
-- instances, what is kept after it stands for them, and is seen as it is.
abbrev pub AllStep : Network → (passed : ℕ) → Signals → (was is : List Stepped) → Type 0
AllStep net passed x was is = (old : State) (ins : List Bool) (since : ℕ) (new : State) → Solves net old ins since new →
    x.before.now ≡ old.signals → x.behind.now ≡ new.signals → StandFor net old was →
    ((i : ℕ) → (block_in old i).code ≢ 0 → passed ≡ since) →
    StandFor net new is
    × ((i : ℕ) (s : Stepped) → slice_get is i ≡ Some s → IsCallOf net old since new i s.call)
