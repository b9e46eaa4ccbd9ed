-- When cells stand for a state of an application. `Says i timer age` is how the timer of instance i says an age: `Since
-- t` in channels A and C, and `Remains` of the instance's limit in channel B.
use Rattle.std.specs.Prelude.{◌≡◌, ℕ, ◌+◌, ◌*◌, ◌<◌, ◌≤◌, ◌==◌, if◌then◌else◌, false, List, [], ◌∷◌, length}
use Rattle.std.specs.Prelude.{slice_index}
use Rattle.ps_model.specs.declared.kind.Kind.{Kind}
use Rattle.ps_model.specs.Action.{Action, assigns, calls}
use Rattle.ps_model.specs.Blocks.{Block_state}
use Rattle.ps_model.specs.Network.{Network, input_count, signal_count, instance_count, kind_at, is_driven}
use Rattle.ps_model.specs.Scanning.{State, signal_in, block_in, limit_of}
use Rattle.ps_model.specs.Kept.{Kept, StandsBy}
use Rattle.ps_model.specs.Stored.{Loads}
use Rattle.ps_machine.specs.Bytes.{bit, instance_bytes}

-- sixteen bytes load for the kind, and what they keep stands for the block state
pub record LoadsTo (Says : ℕ → ℕ → Type 0) (kind : Kind) (bytes : List ℕ) (b : Block_state) : Type 0 where
  pub kept : Kept
  pub loads : Loads kind bytes kept
  pub stands : StandsBy Says kept b

-- Plain cells are those of a state, where the signal bytes begin at a place and the instances' bytes follow them.
pub record AreCellsOf (net : Network) (Says : ℕ → ℕ → ℕ → Type 0) (w : State) (first : ℕ) (cells : List ℕ) : Type 0 where
  pub sized : length cells ≡ first + signal_count net + 16 * instance_count net
  -- a local without a driver is FALSE
  pub undriven : (s : ℕ) → input_count net ≤ s → is_driven net s ≡ false → signal_in w s ≡ false
  pub signals : (s : ℕ) → s < signal_count net → slice_index cells (first + s) ≡ bit (signal_in w s)
  pub blocks : (i : ℕ) → i < instance_count net →
      LoadsTo (Says i) (kind_at net i) (instance_bytes (first + signal_count net) i cells) (block_in w i)

-- the limit of the first of these steps that calls the instance
abbrev pub limit_from : Network → ℕ → List Action → ℕ
limit_from net i [] = 0
limit_from net i (assigns t e ∷ rest) = limit_from net i rest
limit_from net i (calls j args ∷ rest) = if j == i then limit_of (kind_at net j) args else limit_from net i rest

-- the limit of an instance in ms is that of its call
abbrev pub limit_in : Network → ℕ → ℕ
limit_in net i = limit_from net i net.steps
