-- What a case does in a world of its own, and what it is judged by.
use Rattle.std.specs.Prelude.{◌≡◌, ◌↔◌, ℕ, Bool, false, List, [], ◌∷◌, ◌++◌, map, replicate}
use Rattle.std.specs.List.{list_all}
use Rattle.ps_model.specs.Meaning.{Item, Meaning, nothing}
use Rattle.ps_model.specs.Meaning.Item.{scan, restart}
use Rattle.ps_model.specs.Network.{Network, input_count}
use Rattle.ps_model.specs.Scanning.{State}
use Rattle.ps_world.specs.Answers.{Answer, answers_of_run}
use Rattle.ps_world.specs.Whole.{Setup, machines_in, IsSetupOf}
use Rattle.ps_bench_cases.specs.declared.case.Act.{Act}
use Rattle.ps_bench_cases.specs.declared.case.Act.TheVariants.{Set, Scans, Restart, Fault, Expect}
use Rattle.ps_bench_cases.specs.declared.case.Expectation.{Expectation}
use Rattle.ps_bench_cases.specs.declared.case.Statement.{Statement}
use Rattle.ps_bench_cases.specs.Meant.{faults_in, items_of, set_by, times_of}
use Rattle.ps_bench_judge.specs.declared.checks.Failure.{Failure}
use Rattle.ps_bench_judge.specs.Holding.{Event, expects, failures, scanned}
use Rattle.ps_bench_judge.specs.Moments.{Moment}
use Rattle.ps_bench_judge.specs.Runs.{moments_of}

-- ---- what a case asks for

-- One thing after another that a case asks for: a scan, with the line that made it, its time in ms and a value for each
-- input; a restart; or, by a line, a look at the scan before and at those after it.
pub data Task : Type 0 where
  makes : (line now : ℕ) (ins : List Bool) → Task
  renews : Task
  looks : (line : ℕ) (what : Expectation) → Task

-- what a line asks for, where inputs have these values
abbrev pub tasks_by : (line : ℕ) → List Bool → Act → List Task
tasks_by line ins (Scans pace) = map (λ now. makes line now ins) (times_of pace)
tasks_by line ins Restart = renews ∷ []
tasks_by line ins (Expect what) = looks line what ∷ []
tasks_by line ins Set = []
tasks_by line ins (Fault fault) = []

-- what statements ask for, where inputs had these values before
abbrev pub tasks_from : List Bool → List Statement → List Task
tasks_from ins [] = []
tasks_from ins (s ∷ statements) =
    tasks_by s.line (set_by ins s.settings) s.act ++ tasks_from (set_by ins s.settings) statements

-- what a case asks for: all inputs are FALSE until they are set
abbrev pub tasks_of : Network → List Statement → List Task
tasks_of net statements = tasks_from (replicate (input_count net) false) statements

-- the scans and restarts among these
abbrev pub items_in : List Task → List Item
items_in [] = []
items_in (makes line now ins ∷ tasks) = scan now ins ∷ items_in tasks
items_in (renews ∷ tasks) = restart ∷ items_in tasks
items_in (looks line what ∷ tasks) = items_in tasks

-- ---- what is seen of it

-- the events of what is asked for, where this is seen of its scans, one after another
abbrev pub events_in : List Task → List Moment → List Event
events_in [] ms = []
events_in (makes line now ins ∷ tasks) [] = []
events_in (makes line now ins ∷ tasks) (m ∷ ms) = scanned line m ∷ events_in tasks ms
events_in (renews ∷ tasks) ms = events_in tasks ms
events_in (looks line what ∷ tasks) ms = expects line what.window what.checks ∷ events_in tasks ms

-- The answers of the scans of a case, which are those of `fault`: of a run over its items that its faults strike, in a
-- world of this setup at the beginning.
abbrev pub answers_in : Network → Setup → List Statement → List Answer
answers_in net setup statements =
    answers_of_run net (machines_in setup) (items_of net statements) (faults_in statements)

-- the events of a case in such a world, where its items mean these states
abbrev pub events_of : Network → Setup → List Statement → List State → List Event
events_of net setup statements ws =
    events_in (tasks_of net statements)
    (moments_of net nothing (items_of net statements) (answers_in net setup statements) ws)

-- its failures
abbrev pub failures_of : Network → Setup → List Statement → List State → List Failure
failures_of net setup statements ws = failures net (events_of net setup statements ws)

-- ---- what is judged

-- A case is judged by the run that it means: every test passes all failures that were told exactly where it passes all
-- of the run.
abbrev pub IsJudged : Network → List Statement → (told : List Failure) → Type 0
IsJudged net statements told =
    (setup : Setup) → IsSetupOf net setup → (ws : List State) → Meaning net (items_of net statements) ws →
    (p : Failure → Bool) → list_all p told ≡ list_all p (failures_of net setup statements ws)

-- No failure was told exactly where the run has none.
abbrev pub PassesExactly : Network → List Statement → (told : List Failure) → Type 0
PassesExactly net statements told =
    (setup : Setup) → IsSetupOf net setup → (ws : List State) → Meaning net (items_of net statements) ws →
    (told ≡ []) ↔ (failures_of net setup statements ws ≡ [])
