-- What the statements of a case mean: its scans and restarts with the lines that made them, its faults, what is
-- expected, and which
-- scans a window has.
use Rattle.std.specs.Prelude.{ℕ, Bool, false, List, [], ◌∷◌, ◌++◌, ◌+◌, ◌*◌, ◌&&◌, min, map, length, replicate, nat_le}
use Rattle.std.specs.Prelude.{slice_index_or, slice_set, Option, Some, None}
use Rattle.std.specs.List.{filter_map, flat_map, fold, range_with_len}
use Rattle.ps_model.specs.declared.channel.Fault.{Fault as Strike}
use Rattle.ps_model.specs.Meaning.{Item}
use Rattle.ps_model.specs.Meaning.Item.{scan, restart}
use Rattle.ps_model.specs.Network.{Network, input_count}
use Rattle.ps_bench_names.specs.declared.name.Setting.{Setting}
use Rattle.ps_bench_cases.specs.declared.case.Pace.{Pace}
use Rattle.ps_bench_cases.specs.declared.case.Expectation.{Expectation}
use Rattle.ps_bench_cases.specs.declared.case.Act.{Act}
use Rattle.ps_bench_cases.specs.declared.case.Act.TheVariants.{Scans, Restart, Fault, Expect}
use Rattle.ps_bench_cases.specs.declared.case.Statement.{Statement}
use Rattle.ps_bench_cases.specs.declared.case.Case.{Case}
use Rattle.ps_bench_cases.specs.declared.case.CaseFile.{CaseFile}

-- the time of scan k of a pace, counted from 1
abbrev pub time_at : Pace → ℕ → ℕ
time_at pace k = min (pace.from + k * pace.step) pace.upto

-- the times of its scans
abbrev pub times_of : Pace → List ℕ
times_of pace = map (time_at pace) (range_with_len 1 pace.count)

-- an input takes a value
abbrev pub with_setting : List Bool → Setting → List Bool
with_setting ins setting = slice_set ins setting.input setting.value

-- inputs after settings: each has the value that it was given last
abbrev pub set_by : List Bool → List Setting → List Bool
set_by ins settings = fold with_setting ins settings

-- the scans and restarts that a line makes, where inputs have these values
abbrev pub items_made : List Bool → Act → List Item
items_made ins (Scans pace) = map (λ now. scan now ins) (times_of pace)
items_made ins Restart = restart ∷ []
items_made ins _ = []

-- the scans and restarts of statements, where inputs had these values before
abbrev pub items_from : List Bool → List Statement → List Item
items_from ins [] = []
items_from ins (s ∷ statements) =
    items_made (set_by ins s.settings) s.act ++ items_from (set_by ins s.settings) statements

-- the scans and restarts of a case: all inputs are FALSE until they are set
abbrev pub items_of : Network → List Statement → List Item
items_of net statements = items_from (replicate (input_count net) false) statements

-- the times of the scans that a line makes
abbrev pub times_made : Act → List ℕ
times_made (Scans pace) = times_of pace
times_made _ = []

-- the times of all scans of a case
abbrev pub times_in : List Statement → List ℕ
times_in statements = flat_map (λ (s : Statement). times_made s.act) statements

-- for each scan of a case the line that made it
abbrev pub lines_in : List Statement → List ℕ
lines_in statements = flat_map (λ (s : Statement). map (λ time. s.line) (times_made s.act)) statements

-- the fault that a line is, if it is one
abbrev pub fault_made : Act → Option Strike
fault_made (Fault fault) = Some fault
fault_made _ = None

-- the faults of a case, each with the scan that it strikes
abbrev pub faults_in : List Statement → List Strike
faults_in statements = filter_map (λ (s : Statement). fault_made s.act) statements

-- what a line expects
pub record Expected : Type 0 where
  pub line : ℕ
  pub what : Expectation

-- the expectation of a line, if it is one
abbrev pub expected_by : ℕ → Act → Option Expected
expected_by line (Expect what) = Some record { line = line; what = what }
expected_by line _ = None

-- what a case expects, line by line
abbrev pub expected_in : List Statement → List Expected
expected_in statements = filter_map (λ (s : Statement). expected_by s.line s.act) statements

-- the time of scan i among scans of these times, counted from 1
abbrev pub time_of : List ℕ → ℕ → ℕ
time_of times i = slice_index_or (0 ∷ times) i 0

-- Scan j belongs to the window of d ms of scan i: it is that scan or a later one, and at most so much later. Times do
-- not fall.
abbrev pub is_in_window : List ℕ → (d i j : ℕ) → Bool
is_in_window times d i j = nat_le i j && nat_le j (length times) && nat_le (time_of times j) (time_of times i + d)

-- what a case of a file means: what stands before the first case, and then its own
abbrev pub whole_case : CaseFile → Case → List Statement
whole_case file case = file.begin ++ case.statements
