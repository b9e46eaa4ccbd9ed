-- The settings and conditions that words of a rules file are.
use Rattle.std.specs.Prelude.{ℕ, ◌-◌, List, [], ◌∷◌, ◌==◌, Bool, true, false, if◌then◌else◌, length, take, codes, fold}
use Rattle.std.specs.Prelude.{Option, Some, None, Result, Ok, Err}
use Rattle.std.specs.List.{list_any, before_first, after_first}
use Rattle.std.specs.Str.{bytes_eq}
use Rattle.ps_model.specs.Network.{Network}
use Rattle.ps_bench_names.specs.Names.{has_equals, input_in, is_denied, name_of, name_part, number_named, signal_names}
use Rattle.ps_bench_names.specs.Names.{truth_of, value_of, value_part, values_of}
use Rattle.ps_bench_names.specs.declared.name.Name.{Name}
use Rattle.ps_bench_names.specs.declared.name.Setting.{Setting}
use Rattle.ps_bench_rules.specs.Parts.{and_then}
use Rattle.ps_bench_rules.specs.declared.flaw.Flaw.{Flaw}
use Rattle.ps_bench_rules.specs.declared.flaw.Flaw.TheVariants.{R1, R2, R3}
use Rattle.ps_bench_rules.specs.declared.rules.Condition.{Condition}

-- ---- NAME=V of inputs.

-- an input with a value: R2 where it is none, R3 where the value is none
abbrev pub setting_of : Option ℕ → Option Bool → Result Setting Flaw
setting_of None value = Err R2
setting_of (Some input) None = Err R3
setting_of (Some input) (Some value) = Ok record { input = input; value = value }

-- the setting that a word is: R1 without a `=`
abbrev pub setting_said : Network → List ℕ → Result Setting Flaw
setting_said net word =
    if has_equals word
    then setting_of (input_in net (number_named (signal_names net) (name_part word))) (truth_of (value_part word))
    else Err R1

-- the settings that words are
abbrev pub settings_said : Network → List (List ℕ) → Result (List Setting) Flaw
settings_said net words = fold (λ found word. and_then found (setting_said net word)) (Ok []) words

-- ---- NAME=V, NAME=V,V.. and NAME!=V, each perhaps with @before after the name.

-- whether a byte is `@`
abbrev pub is_at : ℕ → Bool
is_at b = b == 64

-- what is named, and whether its value after the scan before is meant
abbrev pub named_when : Bool → Option Name → Option (Name × Bool)
named_when before None = None
named_when before (Some name) = Some (name, before)

-- NAME, or NAME@before, whose value after the scan before is meant
abbrev pub term_of : Network → List ℕ → Option (Name × Bool)
term_of net word =
    if list_any is_at word
    then if bytes_eq (after_first is_at word) (codes "before") then named_when true (name_of net (before_first is_at word))
    else None
    else named_when false (name_of net word)

-- a condition of these values: R3 where one of them is none
abbrev pub condition_of : Name → (before denied : Bool) → Option (List ℕ) → Result Condition Flaw
condition_of name before denied None = Err R3
condition_of name before denied (Some values) =
    Ok record { name = name; before = before; denied = denied; values = values }

-- the one value that a word is
abbrev pub one_value : Option ℕ → Option (List ℕ)
one_value None = None
one_value (Some value) = Some (value ∷ [])

-- NAME!=V: R2 where there is no such name
abbrev pub denied_said : Network → Option (Name × Bool) → List ℕ → Result Condition Flaw
denied_said net None value = Err R2
denied_said net (Some (name, before)) value = condition_of name before true (one_value (value_of net name value))

-- NAME=V,V..: R2 where there is no such name
abbrev pub among_said : Network → Option (Name × Bool) → List ℕ → Result Condition Flaw
among_said net None value = Err R2
among_said net (Some (name, before)) value = condition_of name before false (values_of net name value)

-- a name and what stands after its `=`
abbrev pub compare_said : Network → (name value : List ℕ) → Result Condition Flaw
compare_said net name value =
    if is_denied name then denied_said net (term_of net (take (length name - 1) name)) value
    else among_said net (term_of net name) value

-- the condition that a word is: R1 without a `=`
abbrev pub condition_said : Network → List ℕ → Result Condition Flaw
condition_said net word =
    if has_equals word then compare_said net (name_part word) (value_part word) else Err R1

-- the conditions that words are
abbrev pub conditions_said : Network → List (List ℕ) → Result (List Condition) Flaw
conditions_said net words = fold (λ found word. and_then found (condition_said net word)) (Ok []) words
