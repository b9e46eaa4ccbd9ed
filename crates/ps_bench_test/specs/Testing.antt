-- What `test` runs, what it tells of it, and its status.
use Rattle.std.specs.Prelude.{◌≡◌, ◌≤◌, ◌<◌, ◌+◌, ◌↔◌, ℕ, slice_index_or, Bool, IsTrue, List, [], ◌∷◌, ◌++◌}
use Rattle.std.specs.Prelude.{length, min, if◌then◌else◌}
use Rattle.std.specs.List.{list_all}
use Rattle.std.specs.List.Sorted.{IsNonDecreasingBy}
use Rattle.ps_bench_frame.specs.Opening.{IsOfText, Source}
use Rattle.ps_bench_words.specs.declared.asking.Format.{Format}
use Rattle.ps_bench_cases.specs.declared.case.Case.{Case}
use Rattle.ps_bench_cases.specs.declared.case.CaseFile.{CaseFile}
use Rattle.ps_bench_cases.specs.declared.case.Statement.{Statement}
use Rattle.ps_bench_cases.specs.Meant.{items_of, times_in, whole_case}
use Rattle.ps_bench_judge.specs.CaseRuns.{IsJudged, failures_of}
use Rattle.ps_bench_judge.specs.declared.checks.Failure.{Failure}
use Rattle.ps_bench_judge.specs.declared.run.CaseOutcome.{CaseOutcome}
use Rattle.ps_model.specs.Meaning.{Meaning}
use Rattle.ps_model.specs.Network.{Network}
use Rattle.ps_model.specs.Scanning.{State}
use Rattle.ps_world.specs.Whole.{IsSetupOf, Setup}
use Rattle.ps_bench_test.specs.Outcome.{Ran, passes}
use Rattle.ps_bench_test.specs.Report.{case_text, file_foot_text, file_head_text, foot_text, head_text}
use Rattle.ps_bench_test.specs.Outcome.{counted, none_told}
use Rattle.ps_bench_frame.specs.declared.ending.Status.{Status}
use Rattle.ps_bench_frame.specs.declared.ending.Status.TheVariants.{Done, Failed}
use Rattle.ps_bench_test.specs.declared.outcome.Tally.{Tally}

-- failures stand in the order of their lines, and neighbours of one line in the order of their times
pub record AreToldInOrder (failures : List Failure) : Type 0 where
  pub by_line : IsNonDecreasingBy (λ (f : Failure). f.line) failures
  pub by_time : (k : ℕ) (d : Failure) → k + 1 < length failures →
      (slice_index_or failures k d).line ≡ (slice_index_or failures (k + 1) d).line →
      (slice_index_or failures k d).now ≤ (slice_index_or failures (k + 1) d).now

-- What came of a case that means these statements: its failures are those of the run that they mean, in order, and it
-- made as many scans as they make, of which 4,294,967,295 are counted at most.
pub record IsOutcome (net : Network) (statements : List Statement) (outcome : CaseOutcome) : Type 0 where
  pub judged : IsJudged net statements outcome.failures.items
  pub in_order : AreToldInOrder outcome.failures.items
  pub scans : outcome.scans ≡ min (length (times_in statements)) 4294967295

-- this case of a file of this name was run on an application of this name
pub record IsRan (net : Network) (app name : List ℕ) (file : CaseFile) (case : Case) (r : Ran) : Type 0 where
  pub net_is : r.net ≡ net
  pub app_is : r.app ≡ app
  pub name_is : r.name ≡ name
  pub file_is : r.file ≡ file
  pub case_is : r.case ≡ case
  pub outcome : IsOutcome net (whole_case file case) r.outcome

-- these cases of a file were run, one after another
abbrev pub AreRan : Network → (app name : List ℕ) → CaseFile → List Case → List Ran → Type 0
AreRan net app name file [] [] = Unit {0}
AreRan net app name file [] (r ∷ rs) = ⊥
AreRan net app name file (c ∷ cs) [] = ⊥
AreRan net app name file (c ∷ cs) (r ∷ rs) = IsRan net app name file c r × AreRan net app name file cs rs

-- how many cases were told, and failed, after these
abbrev pub tally_of : Tally → List Ran → Tally
tally_of t [] = t
tally_of t (r ∷ rs) = tally_of (counted t (passes r.outcome)) rs

-- what is told of cases, after as many
abbrev pub cases_text : Format → Tally → List Ran → List ℕ
cases_text format t [] = []
cases_text format t (r ∷ rs) = case_text format t r ++ cases_text format (counted t (passes r.outcome)) rs

-- a case file, and its cases that were run
pub record FileRan : Type 0 where
  pub name : List ℕ
  pub file : CaseFile
  pub ran : List Ran

-- all cases of the file of this name were run, on an application of this name
pub record IsRanFile (from : Source) (app name : List ℕ) (f : FileRan) : Type 0 where
  pub name_is : f.name ≡ name
  pub of_text : IsOfText from name f.file
  pub ran : AreRan from.net app name f.file f.file.cases f.ran

-- these files were run, all cases of each, one after another
abbrev pub AreRanFiles : Source → (app : List ℕ) → (names : List (List ℕ)) → List FileRan → Type 0
AreRanFiles from app [] [] = Unit {0}
AreRanFiles from app [] (f ∷ fs) = ⊥
AreRanFiles from app (name ∷ names) [] = ⊥
AreRanFiles from app (name ∷ names) (f ∷ fs) = IsRanFile from app name f × AreRanFiles from app names fs

-- how many cases were told, and failed, after these files
abbrev pub tally_of_files : Tally → List FileRan → Tally
tally_of_files t [] = t
tally_of_files t (f ∷ fs) = tally_of_files (tally_of t f.ran) fs

-- what is told of a file, after as many cases
abbrev pub file_text : Format → Tally → FileRan → List ℕ
file_text format t f =
    file_head_text format f.name (length f.file.cases) ++ cases_text format t f.ran ++ file_foot_text format

-- what is told of files, after as many cases
abbrev pub files_text : Format → Tally → List FileRan → List ℕ
files_text format t [] = []
files_text format t (f ∷ fs) = file_text format t f ++ files_text format (tally_of t f.ran) fs

-- all that `test` tells of files
abbrev pub test_text : Format → List FileRan → List ℕ
test_text format fs =
    head_text format ++ files_text format none_told fs ++ foot_text format (tally_of_files none_told fs)

-- every case of these files passed
abbrev pub all_passed : List FileRan → Bool
all_passed fs = list_all (λ f. list_all (λ (r : Ran). passes r.outcome) f.ran) fs

-- the status of a call of `test` that ran all of these
abbrev pub test_status : List FileRan → Status
test_status fs = if all_passed fs then Done else Failed

-- A case is told as passed exactly where the run that it means has no failure.
abbrev pub IsToldExactly : Network → List Statement → CaseOutcome → Type 0
IsToldExactly net statements outcome =
    (setup : Setup) → IsSetupOf net setup → (ws : List State) → Meaning net (items_of net statements) ws →
    IsTrue (passes outcome) ↔ (failures_of net setup statements ws ≡ [])
