-- What the steps leave, one after another. It defines no meaning of its own: machines and evaluators are proved against
-- it, and it solves the equations of the scan.
use Rattle.std.specs.Prelude.{ℕ, ◌-◌, Bool, false, cond, List, [], ◌∷◌, slice_index_or, nat_lt, ◌||◌}
use Rattle.ps_model.specs.Formula.{value}
use Rattle.ps_model.specs.Blocks.{Block_state, moved, outs}
use Rattle.ps_model.specs.Network.{Network, input_count, kind_at, first_pin, drives, is_call_of, is_driven}
use Rattle.ps_model.specs.Action.{Action, Actual, assigns, calls}
use Rattle.ps_model.specs.Scanning.{State, signal_in, block_in, pins_under, limit_of}

-- a value of each signal and a state of each instance, while the steps go on
pub record Interim : Type 0 where
  pub signals : ℕ → Bool
  pub blocks : ℕ → Block_state

module _ (net : Network) (dt : ℕ) where
  -- the state of a called instance after its call
  abbrev pub called_state : ℕ → List Actual → Interim → Block_state
  called_state i args m = moved (kind_at net i) (limit_of (kind_at net i) args) (pins_under m.signals (kind_at net i) args) dt (m.blocks i)

  -- what a step writes to a signal that it drives
  abbrev pub written : Action → Interim → ℕ → Bool
  written (assigns t e) m s = value m.signals e
  written (calls i args) m s =
      slice_index_or (outs (kind_at net i) (called_state i args m).code (called_state i args m).mode) (s - first_pin net i) false

  -- the state that a step leaves at an instance that it calls
  abbrev pub left_at : Action → Interim → ℕ → Block_state
  left_at (assigns t e) m i = m.blocks i
  left_at (calls j args) m i = called_state j args m

  -- what a step leaves
  abbrev pub done : Action → Interim → Interim
  done a m = record {
    signals = λ s. cond (drives net s a) (written a m s) (m.signals s);
    blocks = λ i. cond (is_call_of net i a) (left_at a m i) (m.blocks i);
  }

  -- what these steps leave
  unfoldable pub exec : List Action → Interim → Interim
  exec [] m = m
  exec (a ∷ rest) m = exec rest (done a m)

-- a state, as the steps find it
abbrev pub interim_of : State → Interim
interim_of w = record { signals = signal_in w; blocks = block_in w }

-- before the first step: the inputs of this scan, and all else as it was
abbrev pub begun : Network → State → List Bool → Interim
begun net old ins = record {
  signals = λ s. cond (nat_lt s (input_count net)) (slice_index_or ins s false) (signal_in old s);
  blocks = block_in old;
}

-- an input or a signal that a step drives
abbrev pub is_kept : Network → ℕ → Bool
is_kept net s = nat_lt s (input_count net) || is_driven net s
