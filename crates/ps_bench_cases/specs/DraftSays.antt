-- What the code says of a case file that it reads.
use Rattle.std.specs.Prelude.{◌≤◌, ◌<◌, ◌^◌, Option, Some, None, Result, Ok, Err}
use Rattle.ps_bench_cases.specs.declared.rule.CaseRefusal.{CaseRefusal}
use Rattle.ps_bench_cases.specs.declared.rule.CasesFail.{CasesFail}
use Rattle.ps_bench_cases.specs.declared.rule.CasesFail.TheVariants.{Memory as NoMemory, Fault as IsFault}
use Rattle.ps_bench_cases.specs.declared.rule.CasesFail.TheVariants.{Refused as IsRefused}
use Rattle.ps_bench_cases.specs.declared.limits.TheConstants.{MOST_CASE_SCANS}
use Rattle.ps_bench_cases.specs.declared.stand.Coming.{Coming}
use Rattle.ps_bench_cases.specs.declared.draft.Draft.{Draft}
use Rattle.ps_bench_cases.specs.Stands.{IsSmall}

-- what stands after a line, by an answer: a refusal, or the draft as it is now
abbrev pub after_by : Option CaseRefusal → Draft → Result Draft CaseRefusal
after_by None d = Ok d
after_by (Some refusal) d = Err refusal

-- the file was read: an answer that neither a failed read nor running out of memory gives
abbrev pub IsRead : {A : Type 0} → Result A CasesFail → Type 0
IsRead (Ok value) = Unit {0}
IsRead (Err NoMemory) = ⊥
IsRead (Err IsFault) = ⊥
IsRead (Err (IsRefused refusal)) = Unit {0}

-- the cases of a draft keep within the limits so far
pub record KeepsLimits (d : Draft) : Type 0 where
  pub start : IsSmall d.start
  pub stand : IsSmall d.stand

-- so do those before the next case
pub record IsWithin (c : Coming) : Type 0 where
  pub start : IsSmall c.start
  pub base : c.base < 2 ^ 33
  pub made : c.made ≤ MOST_CASE_SCANS
