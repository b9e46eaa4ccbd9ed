-- Pieces of what is told of rules.
use Rattle.std.specs.Prelude.{ℕ, Bool, List, [], ◌∷◌, ◌++◌, codes, decimal, if◌then◌else◌, nat_lt, slice_get}
use Rattle.std.specs.Option.{unwrap_or}
use Rattle.std.specs.List.{flat_map}
use Rattle.ps_model.specs.Network.{Network, declared_count, instance_count, instance_name, kind_at, signal_name}
use Rattle.ps_model.specs.Pins.{pin_names}
use Rattle.ps_report.specs.Lines.{code_text}
use Rattle.ps_bench_names.specs.declared.name.Name.{Name}
use Rattle.ps_bench_names.specs.declared.name.Name.TheVariants.{Code, Pin, Signal}
use Rattle.ps_bench_rules.specs.declared.rules.Condition.{Condition}

-- the name of an instance; one that there is not has none
abbrev pub instance_text : Network → ℕ → List ℕ
instance_text net i = if nat_lt i (instance_count net) then instance_name net i else []

-- the name of a pin of an instance; one that there is not has none
abbrev pub pin_text : Network → (instance pin : ℕ) → List ℕ
pin_text net i j = if nat_lt i (instance_count net) then unwrap_or (slice_get (pin_names (kind_at net i)) j) [] else []

-- the name of an input, output or local; another signal has none
abbrev pub signal_text : Network → ℕ → List ℕ
signal_text net s = if nat_lt s (declared_count net) then signal_name net s else []

-- a name, as a condition has it
abbrev pub name_text : Network → Name → List ℕ
name_text net (Signal s) = signal_text net s
name_text net (Code i) = instance_text net i
name_text net (Pin i j) = instance_text net i ++ codes "." ++ pin_text net i j

-- a value of a name: of an instance its code, of others 0 or 1
abbrev pub value_text : Name → ℕ → List ℕ
value_text (Code i) value = code_text value
value_text (Signal s) value = decimal value
value_text (Pin i j) value = decimal value

-- values with commas between them
abbrev pub values_text : Name → List ℕ → List ℕ
values_text name [] = []
values_text name (value ∷ rest) = value_text name value ++ flat_map (λ v. codes "," ++ value_text name v) rest

-- what stands between a name and its values
abbrev pub sign : Bool → List ℕ
sign denied = if denied then codes "!=" else codes "="

-- a condition as a word of an expectation, as `S_Ram=1` or `Guard!=8000`
abbrev pub condition_word : Network → Condition → List ℕ
condition_word net c = name_text net c.name ++ sign c.denied ++ values_text c.name c.values

-- this word after a space
abbrev pub condition_text : Network → Condition → List ℕ
condition_text net c = codes " " ++ condition_word net c
