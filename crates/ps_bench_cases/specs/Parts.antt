-- The parts of a line: each is right, or breaks a rule. Of several rules that a line breaks the one with the least
-- number counts.
use Rattle.std.specs.Prelude.{ℕ, List, [], ◌∷◌, ◌++◌, if◌then◌else◌, nat_le, Result, Ok, Err}
use Rattle.ps_bench_cases.specs.declared.rule.CaseRule.{CaseRule}
use Rattle.ps_bench_cases.specs.declared.rule.CaseRule.TheVariants.{K1, K2, K3, K4, K5, K6, K7}

-- the number of a rule
abbrev pub rank : CaseRule → ℕ
rank K1 = 1
rank K2 = 2
rank K3 = 3
rank K4 = 4
rank K5 = 5
rank K6 = 6
rank K7 = 7

-- of two rules the one with the lesser number
abbrev pub least : CaseRule → CaseRule → CaseRule
least r s = if nat_le (rank r) (rank s) then r else s

-- two parts of a line: both are right, or the least rule counts that one of them breaks
abbrev pub both : {A B : Type 0} → Result A CaseRule → Result B CaseRule → Result (A × B) CaseRule
both (Ok a) (Ok b) = Ok (a, b)
both (Ok a) (Err s) = Err s
both (Err r) (Ok b) = Err r
both (Err r) (Err s) = Err (least r s)

-- some parts of a line, and one more after them
abbrev pub and_then : {A : Type 0} → Result (List A) CaseRule → Result A CaseRule → Result (List A) CaseRule
and_then (Ok found) (Ok a) = Ok (found ++ a ∷ [])
and_then (Ok found) (Err s) = Err s
and_then (Err r) (Ok a) = Err r
and_then (Err r) (Err s) = Err (least r s)
