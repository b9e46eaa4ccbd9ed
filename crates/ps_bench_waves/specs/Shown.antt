-- What stands for a name, and how its value is shown.
use Rattle.std.specs.Prelude.{ℕ, ◌==◌, List, [], ◌++◌, codes, nat_lt, if◌then◌else◌, slice_get, unwrap_or}
use Rattle.std.specs.Prelude.{Option, Some, None}
use Rattle.json.specs.Print.{quoted}
use Rattle.ps_bench_names.specs.declared.name.Name.{Name}
use Rattle.ps_bench_names.specs.declared.name.Name.TheVariants.{Signal, Code, Pin}
use Rattle.ps_model.specs.Network.{Network, declared_count, instance_count, instance_name, kind_at, signal_name}
use Rattle.ps_model.specs.Pins.{pin_names}
use Rattle.ps_report.specs.Lines.{code_text}
use Rattle.ps_ways.specs.States.{state_words}

-- the name of an input, output or local
abbrev pub signal_label : Network → ℕ → List ℕ
signal_label net s = if nat_lt s (declared_count net) then signal_name net s else []

-- the name of an instance
abbrev pub instance_label : Network → ℕ → List ℕ
instance_label net i = if nat_lt i (instance_count net) then instance_name net i else []

-- the name of a pin of an instance
abbrev pub pin_label : Network → (i j : ℕ) → List ℕ
pin_label net i j = if nat_lt i (instance_count net) then unwrap_or (slice_get (pin_names (kind_at net i)) j) [] else []

-- what stands for a name, as it is declared: `S_Ram`, `Guard` or `Guard.S_GuardSwitch1`
abbrev pub label : Network → Name → List ℕ
label net (Signal s) = signal_label net s
label net (Code i) = instance_label net i
label net (Pin i j) = instance_label net i ++ codes "." ++ pin_label net i j

-- a truth value, by its number, as a digit
abbrev pub digit : ℕ → List ℕ
digit v = if v == 0 then codes "0" else codes "1"

-- words after a code, where it has some
abbrev pub behind : Option (List ℕ) → List ℕ
behind (Some words) = codes " " ++ words
behind None = []

-- the words of a DiagCode of an instance, after it
abbrev pub words_behind : Network → (i code : ℕ) → List ℕ
words_behind net i code = if nat_lt i (instance_count net) then behind (state_words (kind_at net i) code) else []

-- a DiagCode of an instance with the words of its state, as `8004 waiting for switch 2`
abbrev pub state_text : Network → (i code : ℕ) → List ℕ
state_text net i code = code_text code ++ words_behind net i code

-- the value of a name, for a person: of an instance its state, of others 0 or 1
abbrev pub value_text : Network → Name → ℕ → List ℕ
value_text net (Signal s) v = digit v
value_text net (Code i) v = state_text net i v
value_text net (Pin i j) v = digit v

-- the same as a field of CSV: of an instance its code
abbrev pub field_text : Name → ℕ → List ℕ
field_text (Signal s) v = digit v
field_text (Code i) v = code_text v
field_text (Pin i j) v = digit v

-- a truth value, by its number, in JSON (RFC 8259)
abbrev pub truth_text : ℕ → List ℕ
truth_text v = if v == 0 then codes "false" else codes "true"

-- the value of a name in JSON: of an instance a string, its code, and of others `true` or `false`
abbrev pub json_value : Name → ℕ → List ℕ
json_value (Signal s) v = truth_text v
json_value (Code i) v = codes "\"" ++ code_text v ++ codes "\""
json_value (Pin i j) v = truth_text v

-- what stands for a name in JSON: a string and a colon
abbrev pub json_key : Network → Name → List ℕ
json_key net name = quoted (label net name) ++ codes ":"
