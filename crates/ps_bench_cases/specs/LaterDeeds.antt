-- What the words of a line ask for, from the fifth word on that a line may begin with.
use Rattle.std.specs.Prelude.{ℕ, List, ◌==◌, if◌then◌else◌, drop, codes, Result, Err}
use Rattle.std.specs.Str.{bytes_eq}
use Rattle.ps_model.specs.Network.{Network}
use Rattle.ps_bench_names.specs.declared.name.Setting.{Setting}
use Rattle.ps_bench_cases.specs.declared.rule.CaseRule.{CaseRule}
use Rattle.ps_bench_cases.specs.declared.rule.CaseRule.TheVariants.{K1}
use Rattle.ps_bench_cases.specs.declared.deed.Deed.{Deed}
use Rattle.ps_bench_cases.specs.declared.deed.Deed.TheVariants.{After}
use Rattle.ps_bench_cases.specs.Words.{number_said}
use Rattle.ps_bench_cases.specs.Line.{alone, deed_with, expect_said, fault_said, first_byte, with_settings}

-- the first word is none of `set`, `at`, `every` and `restart`
abbrev pub other_said : Network → List ℕ → List (List ℕ) → Result (Deed × List Setting) CaseRule
other_said net word words =
    if bytes_eq word (codes "fault") then alone (fault_said words)
    else if bytes_eq word (codes "expect") then alone (expect_said net words)
    else if first_byte word == 43 then with_settings net (deed_with After (number_said (drop 1 word))) words
    else Err K1
