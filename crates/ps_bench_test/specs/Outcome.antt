-- A case that was run, and how many were told.
use Rattle.std.specs.Prelude.{ℕ, ◌+◌, Bool, List, length, min}
use Rattle.ps_bench_judge.specs.Passed.{failed_behind, has_passed}
use Rattle.ps_bench_cases.specs.declared.case.Case.{Case}
use Rattle.ps_bench_cases.specs.declared.case.CaseFile.{CaseFile}
use Rattle.ps_bench_judge.specs.declared.run.CaseOutcome.{CaseOutcome}
use Rattle.ps_model.specs.Network.{Network}
use Rattle.ps_bench_test.specs.declared.outcome.CaseRun.{CaseRun}
use Rattle.ps_bench_test.specs.declared.outcome.Tally.{Tally}

-- A case that was run: the application and its name, the name of the case's file, what the file says, the case, and
-- what came of it, with the failures in the order of their lines.
pub record Ran : Type 0 where
  pub net : Network
  pub app : List ℕ
  pub name : List ℕ
  pub file : CaseFile
  pub case : Case
  pub outcome : CaseOutcome

-- how the code has it
abbrev pub ran_of : CaseRun → Ran
ran_of r = record {
  net = r.app.now;
  app = r.app_name.now;
  name = r.name.now;
  file = r.file.now;
  case = r.case.now;
  outcome = r.outcome.now;
}

-- A case is told as passed exactly where its failures are none.
abbrev pub passes : CaseOutcome → Bool
passes outcome = has_passed (length outcome.failures.items)

-- the number after a number; the largest one stays
abbrev pub next : ℕ → ℕ
next n = min (n + 1) 18446744073709551615

-- no case was told yet
abbrev pub none_told : Tally
none_told = record { cases = 0; failed = 0 }

-- one more case was told, which passed or failed
abbrev pub counted : Tally → (passed : Bool) → Tally
counted t passed = record { cases = next t.cases; failed = failed_behind t.failed passed }
