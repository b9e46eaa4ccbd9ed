-- The value of a name in a scan. Outputs of the application, and Ready, Error and DiagCodes of instances, are those
-- that were released; all other values are what the networks mean, whatever was spoiled.
use Rattle.std.specs.Prelude.{ℕ, Bool, false, ◌+◌, ◌-◌, ◌&&◌, ◌==◌, length, nat_le, nat_lt}
use Rattle.std.specs.Prelude.{if◌then◌else◌, slice_index_or}
use Rattle.ps_model.specs.declared.report.Diag.{Diag}
use Rattle.ps_model.specs.Blank.{no_diag}
use Rattle.ps_model.specs.Blocks.{block}
use Rattle.ps_model.specs.Network.{Network, input_count, instance_count, first_pin, kind_at}
use Rattle.ps_model.specs.Stored.{bit}
use Rattle.ps_machine.specs.Calls.{input_pin}
use Rattle.ps_bench_names.specs.declared.name.Name.{Name}
use Rattle.ps_bench_names.specs.declared.name.Name.TheVariants.{Signal, Code, Pin}
use Rattle.ps_bench_judge.specs.Moments.{Moment}

-- what an instance says of itself, as it was released
abbrev pub diag_in : Moment → ℕ → Diag
diag_in m i = slice_index_or m.report.diags i no_diag

-- A pin of an instance, by its number among those of the kind: an input pin, a safe output, Ready, or Error.
abbrev pub pin_in : Network → Moment → (i j : ℕ) → Bool
pin_in net m i j =
    let inputs = length (block (kind_at net i)).inputs in
    let outputs = length (block (kind_at net i)).outputs in
    if nat_lt j inputs then input_pin net m.before m.signals i j
    else if nat_lt j (inputs + outputs) then slice_index_or m.signals (first_pin net i + (j - inputs)) false
    else if j == inputs + outputs then (diag_in m i).ready
    else (diag_in m i).error

-- a pin of an instance, FALSE past the instances
abbrev pub pin_of : Network → Moment → (i j : ℕ) → Bool
pin_of net m i j = nat_lt i (instance_count net) && pin_in net m i j

-- an output of the application
abbrev pub is_output : Network → ℕ → Bool
is_output net s = nat_le (input_count net) s && nat_lt (s - input_count net) (length net.outputs)

-- an input, an output or a local
abbrev pub signal_in : Network → Moment → ℕ → Bool
signal_in net m s =
    if is_output net s then slice_index_or m.report.outs (s - input_count net) false else slice_index_or m.signals s false

-- the value of a name: 0 for FALSE, 1 for TRUE, or a DiagCode
abbrev pub value_in : Network → Moment → Name → ℕ
value_in net m (Signal s) = bit (signal_in net m s)
value_in net m (Code i) = (diag_in m i).code
value_in net m (Pin i j) = bit (pin_of net m i j)
