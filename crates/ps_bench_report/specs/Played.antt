-- What a recording of a case shows.
use Rattle.std.specs.Prelude.{List, false}
use Rattle.ps_bench_cases.specs.Meant.{faults_in, items_of}
use Rattle.ps_bench_cases.specs.declared.case.Statement.{Statement}
use Rattle.ps_model.specs.Meaning.{Item, Meaning, nothing}
use Rattle.ps_model.specs.Network.{Network}
use Rattle.ps_model.specs.Scanning.{State}
use Rattle.ps_model.specs.declared.channel.Fault.{Fault}
use Rattle.ps_bench_report.specs.Covered.{CoversRun}
use Rattle.ps_bench_report.specs.Marks.{names_shown}
use Rattle.ps_cover.specs.Applying.{scans_of}
use Rattle.ps_bench_report.specs.Recording.{Made, Records, made_in}
use Rattle.ps_bench_report.specs.declared.filming.Kept.{Kept}
use Rattle.ps_bench_report.specs.declared.recording.Recording.{Recording}
use Rattle.ps_bench_judge.specs.Runs.{moments_of}
use Rattle.ps_bench_names.specs.declared.name.Name.{Name}
use Rattle.ps_world.specs.Answers.{answers_of_run}
use Rattle.ps_world.specs.Whole.{Setup, IsSetupOf, machines_in}

-- The scans of a run over items that mean these states, in a world of this setup at the beginning, which these faults
-- strike: with the verdicts and the reports that it answers, as `fault` has them.
abbrev pub run_of : Network → Setup → List Item → List Fault → List State → List Made
run_of net setup items faults ws =
    made_in false items (moments_of net nothing items (answers_of_run net (machines_in setup) items faults) ws)

-- A recording shows these names in the run over these items: whichever states they mean, of which there is one list.
pub record RecordsItems (net : Network) (names : List Name) (items : List Item) (faults : List Fault)
    (r : Recording) : Type 0 where
  pub setup : Setup
  pub is_setup : IsSetupOf net setup
  pub records : (ws : List State) → Meaning net items ws → Records net names (run_of net setup items faults ws) r

-- A recording shows a case: in the run by which `test` judges it, the values of what is shown by name.
abbrev pub IsRecordingOf : Network → List Statement → Recording → Type 0
IsRecordingOf net statements r =
    RecordsItems net (names_shown net statements) (items_of net statements) (faults_in statements) r

-- What is kept of a run shows these names in it, and knows what its scans show of the application.
pub record KeepsItems (net : Network) (names : List Name) (items : List Item) (faults : List Fault)
    (kept : Kept) : Type 0 where
  pub records : RecordsItems net names items faults kept.recording
  pub covers : (ws : List State) → Meaning net items ws → CoversRun net (scans_of net nothing items ws) kept.cover

-- What is kept of the run of a case shows the case.
abbrev pub IsKeptOf : Network → List Statement → Kept → Type 0
IsKeptOf net statements kept =
    KeepsItems net (names_shown net statements) (items_of net statements) (faults_in statements) kept
