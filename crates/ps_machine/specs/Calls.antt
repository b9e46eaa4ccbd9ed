-- The calls of instances, and what they read at their input pins.
use Rattle.std.specs.Prelude.{ℕ, Bool, false, List, Option, Some, None, position, slice_get}
use Rattle.std.specs.Option.{option_map_or}
use Rattle.ps_model.specs.Action.{Action, assigns, calls}
use Rattle.ps_model.specs.Network.{Network, is_call_of, kind_at}
use Rattle.ps_model.specs.Scanning.{pins_under}
use Rattle.ps_machine.specs.Reading.{read_between}

-- the step that calls an instance
abbrev pub call_step : Network → (i : ℕ) → Option ℕ
call_step net i = position (is_call_of net i) net.steps

-- input pin j of the call that a step is, where signals read so
abbrev pub called_pin : Network → (v : ℕ → Bool) → Option Action → (j : ℕ) → Bool
called_pin net v (Some (calls i args)) j = pins_under v (kind_at net i) args j
called_pin net v (Some (assigns t e)) j = false
called_pin net v None j = false

-- input pin j of an instance, as its call reads it, where these are the signals before the scan and after it
abbrev pub input_pin : Network → (before behind : List Bool) → (i j : ℕ) → Bool
input_pin net before behind i j =
    option_map_or (λ k. called_pin net (read_between net before behind k) (slice_get net.steps k) j) (call_step net i) false
