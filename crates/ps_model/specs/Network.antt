-- An application as contracts see it, and the numbers of its signals.
use Rattle.std.specs.Prelude.{ℕ, Bool, false, List, [], ◌++◌, ◌+◌, ◌&&◌, ◌||◌, ◌==◌, length, map, nat_le, nat_lt}
use Rattle.std.specs.Prelude.{sum_by, take, slice_index_or}
use Rattle.std.specs.List.{list_any}
use Rattle.ps_model.specs.declared.kind.Kind.{Kind}
use Rattle.ps_model.specs.declared.kind.Kind.TheVariants.{Equivalent}
use Rattle.ps_model.specs.declared.kind.Ty.TheVariants.{Bool as Plain}
use Rattle.ps_model.specs.declared.named.Signal.{Signal}
use Rattle.ps_model.specs.declared.named.Instance.{Instance}
use Rattle.ps_model.specs.Action.{Action, assigns, calls}
use Rattle.ps_model.specs.Blocks.{output_count}

-- an application: its name, its named inputs, outputs, locals and instances, and its steps
pub record Network : Type 0 where
  pub name : List ℕ
  pub inputs : List Signal
  pub outputs : List Signal
  pub locals : List Signal
  pub instances : List Instance
  pub steps : List Action

-- the application of these parts
abbrev pub made_of : List ℕ → List Signal → List Signal → List Signal → List Instance → List Action → Network
made_of name inputs outputs locals instances steps =
    record { name = name; inputs = inputs; outputs = outputs; locals = locals; instances = instances; steps = steps }

-- what stands past the declared signals
abbrev pub no_signal : Signal
no_signal = record { name = []; ty = Plain }

-- what stands past the declared instances
abbrev pub no_instance : Instance
no_instance = record { name = []; kind = Equivalent }

-- Signals are numbered from 0: inputs, outputs, locals, and then each instance's outputs. Instances are numbered from
-- 0.
module _ (net : Network) where
  -- how many inputs there are
  abbrev pub input_count : ℕ
  input_count = length net.inputs

  -- how many signals have a declaration of their own
  abbrev pub declared_count : ℕ
  declared_count = length net.inputs + length net.outputs + length net.locals

  -- the signals with a declaration of their own, in the order of their numbers
  abbrev pub declared_signals : List Signal
  declared_signals = net.inputs ++ (net.outputs ++ net.locals)

  -- the name of an input, output or local
  abbrev pub signal_name : ℕ → List ℕ
  signal_name s = (slice_index_or declared_signals s no_signal).name

  -- every declared name, of signals and of instances
  abbrev pub names : List (List ℕ)
  names = map (λ s. s.name) declared_signals ++ map (λ i. i.name) net.instances

  -- how many instances there are
  abbrev pub instance_count : ℕ
  instance_count = length net.instances

  -- the name of an instance
  abbrev pub instance_name : ℕ → List ℕ
  instance_name i = (slice_index_or net.instances i no_instance).name

  -- the kind of an instance
  abbrev pub kind_at : ℕ → Kind
  kind_at i = (slice_index_or net.instances i no_instance).kind

  -- the first output signal of an instance
  abbrev pub first_pin : ℕ → ℕ
  first_pin i = declared_count + sum_by (λ x. output_count x.kind) (take i net.instances)

  -- how many signals there are, pin outputs among them
  abbrev pub signal_count : ℕ
  signal_count = first_pin (length net.instances)

  -- a step drives the signal that it assigns, or each output of the instance that it calls
  abbrev pub drives : ℕ → Action → Bool
  drives s (assigns t e) = t == s
  drives s (calls i args) = nat_le (first_pin i) s && nat_lt s (first_pin i + output_count (kind_at i))

  -- whether a step calls an instance
  abbrev pub is_call_of : ℕ → Action → Bool
  is_call_of i (assigns t e) = false
  is_call_of i (calls j args) = j == i

  -- a signal has its value of this scan already: it is an input, or its driver stands before step k
  abbrev pub is_new : ℕ → ℕ → Bool
  is_new k s = nat_lt s input_count || list_any (drives s) (take k net.steps)

  -- some step drives the signal
  abbrev pub is_driven : ℕ → Bool
  is_driven s = list_any (drives s) net.steps
