-- Names and values of an application in words.
use Rattle.std.specs.Prelude.{ℕ, List, [], ◌++◌, codes, decimal, nat_lt, if◌then◌else◌, slice_get, unwrap_or}
use Rattle.std.specs.Prelude.{Option, Some, None}
use Rattle.ps_model.specs.Network.{Network, declared_count, instance_count, instance_name, kind_at, signal_name}
use Rattle.ps_model.specs.Pins.{pin_names}
use Rattle.ps_report.specs.Lines.{code_text}
use Rattle.ps_ways.specs.States.{state_words}
use Rattle.ps_bench_names.specs.declared.name.Name.{Name}
use Rattle.ps_bench_names.specs.declared.name.Name.TheVariants.{Signal, Code, Pin}

-- the name of an input, output or local
abbrev pub signal_text : Network → ℕ → List ℕ
signal_text net s = if nat_lt s (declared_count net) then signal_name net s else []

-- the name of an instance
abbrev pub instance_text : Network → ℕ → List ℕ
instance_text net i = if nat_lt i (instance_count net) then instance_name net i else []

-- the name of a pin of an instance
abbrev pub pin_text : Network → (i j : ℕ) → List ℕ
pin_text net i j = if nat_lt i (instance_count net) then unwrap_or (slice_get (pin_names (kind_at net i)) j) [] else []

-- a name, as a check has it: `S_Ram`, `Guard` or `Guard.S_GuardSwitch1`
abbrev pub name_text : Network → Name → List ℕ
name_text net (Signal s) = signal_text net s
name_text net (Code i) = instance_text net i
name_text net (Pin i j) = instance_text net i ++ codes "." ++ pin_text net i j

-- the words of a state after its code, where there are any
abbrev pub words_text : Option (List ℕ) → List ℕ
words_text None = []
words_text (Some words) = codes " " ++ words

-- a code of an instance, in four hexadecimal digits, with the words of its state, as `8000 enabled`
abbrev pub state_text : Network → (i code : ℕ) → List ℕ
state_text net i code =
    code_text code ++ (if nat_lt i (instance_count net) then words_text (state_words (kind_at net i) code) else [])

-- a value of a name: of an instance its code, and of others 0 or 1
abbrev pub value_text : Network → Name → ℕ → List ℕ
value_text net (Signal s) value = decimal value
value_text net (Code i) value = state_text net i value
value_text net (Pin i j) value = decimal value
