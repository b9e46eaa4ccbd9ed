-- What holds of every application.
use Rattle.std.specs.Prelude.{◌≡◌, ℕ, true, length, ◌+◌, ◌<◌, ◌≤◌, List, All, AllPairs, count_by, slice_get, Some}
use Rattle.ps_base.specs.declared.limits.TheConstants.{MOST_INPUTS, MOST_OUTPUTS, MOST_SIGNALS, MOST_INSTANCES}
use Rattle.ps_base.specs.declared.limits.TheConstants.{MOST_NODES, MOST_NESTED}
use Rattle.ps_model.specs.Formula.{Formula}
use Rattle.ps_model.specs.Action.{Actual, assigns, calls, FitsTime}
use Rattle.ps_model.specs.Blocks.{block}
use Rattle.ps_base.specs.LetterCase.{SameName}
use Rattle.ps_model.specs.Network.{Network, names, input_count, declared_count, declared_signals, instance_count}
use Rattle.ps_model.specs.Network.{signal_count, kind_at, drives, is_call_of, is_driven}
use Rattle.ps_model.specs.Named.{AreBoolean}
use Rattle.ps_model.specs.Values.{values, IsBelow, HasOperands, depth, is_read}
use Rattle.ps_model.specs.Nodes.{app_nodes}

-- what the front end has found of an application, and every reader of it may rely on
pub record IsSound (net : Network) : Type 0 where
  -- names differ without letter case
  pub names_differ : AllPairs (λ a b. ¬ (SameName a b)) (names net)
  -- each declared signal is SAFEBOOL or BOOL
  pub signals_boolean : AreBoolean (declared_signals net)
  -- the limits
  pub few_inputs : length net.inputs ≤ MOST_INPUTS
  pub few_outputs : length net.outputs ≤ MOST_OUTPUTS
  pub few_signals : signal_count net ≤ MOST_SIGNALS
  pub few_instances : length net.instances ≤ MOST_INSTANCES
  pub few_nodes : length (app_nodes net) ≤ MOST_NODES
  -- a target is an output or a local
  pub targets : (k t : ℕ) (e : Formula) → slice_get net.steps k ≡ Some (assigns t e) → (input_count net ≤ t) × (t < declared_count net)
  -- a called instance is declared, and a call has one argument for each input pin of its kind
  pub instances : (k i : ℕ) (args : List Actual) → slice_get net.steps k ≡ Some (calls i args) → i < instance_count net
  pub arguments : (k i : ℕ) (args : List Actual) → slice_get net.steps k ≡ Some (calls i args) → length args ≡ length (block (kind_at net i)).inputs
  -- a TIME literal in a call is below 2^32 ms
  pub times_fit : (k i : ℕ) (args : List Actual) → slice_get net.steps k ≡ Some (calls i args) → All FitsTime args
  -- every signal that a value names exists; AND and OR have two or more operands, and are not nested too deep
  pub values_below : All (IsBelow (signal_count net)) (values net)
  pub values_full : All HasOperands (values net)
  pub values_shallow : All (λ e. depth e ≤ MOST_NESTED) (values net)
  -- every signal has at most one driver, and each output and each local that is read has one
  pub one_driver : (s : ℕ) → count_by (drives net s) net.steps ≤ 1
  pub outputs_driven : (s : ℕ) → input_count net ≤ s → s < input_count net + length net.outputs → is_driven net s ≡ true
  pub locals_driven : (s : ℕ) → input_count net ≤ s → s < declared_count net → is_read net s ≡ true → is_driven net s ≡ true
  -- every instance is called exactly once
  pub called_once : (i : ℕ) → i < instance_count net → count_by (is_call_of net i) net.steps ≡ 1
