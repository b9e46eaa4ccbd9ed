-- The numbers and settings that words of a line are.
use Rattle.std.specs.Prelude.{ℕ, List, ◌==◌, Bool, if◌then◌else◌, Option, Some, None, Result, Ok, Err}
use Rattle.std.specs.Option.{ok_or}
use Rattle.ps_model.specs.Network.{Network}
use Rattle.ps_trace.specs.Words.{number_of}
use Rattle.ps_bench_names.specs.Words.{is_digits}
use Rattle.ps_bench_names.specs.Names.{number_named, signal_names, truth_of, has_equals, name_part, value_part, input_in}
use Rattle.ps_bench_cases.specs.declared.rule.CaseRule.{CaseRule}
use Rattle.ps_bench_cases.specs.declared.rule.CaseRule.TheVariants.{K1, K2, K3, K4}
use Rattle.ps_bench_names.specs.declared.name.Setting.{Setting}

-- ---- Numbers.

-- the number that a word is: K1 where it is no digits, K4 past 4,294,967,295
abbrev pub number_said : List ℕ → Result ℕ CaseRule
number_said word = if is_digits word then ok_or (number_of word) K4 else Err K1

-- the same from 1 on: K1 for 0
abbrev pub above_zero : Result ℕ CaseRule → Result ℕ CaseRule
above_zero (Ok n) = if n == 0 then Err K1 else Ok n
above_zero (Err rule) = Err rule

-- ---- NAME=V of inputs.

-- an input with a value: K2 where it is none, K3 where the value is none
abbrev pub setting_of : Option ℕ → Option Bool → Result Setting CaseRule
setting_of None value = Err K2
setting_of (Some input) None = Err K3
setting_of (Some input) (Some value) = Ok record { input = input; value = value }

-- the setting that a word is: K1 without a `=`
abbrev pub setting_said : Network → List ℕ → Result Setting CaseRule
setting_said net word =
    if has_equals word
    then setting_of (input_in net (number_named (signal_names net) (name_part word))) (truth_of (value_part word))
    else Err K1
