-- What a case expects, by its scans, and what is shown of it by name.
use Rattle.std.specs.Prelude.{ℕ, Bool, false, not, ◌==◌, ◌&&◌, ◌+◌, List, [], ◌∷◌, ◌++◌, map, length, min, nat_lt}
use Rattle.std.specs.Prelude.{if◌then◌else◌, fold}
use Rattle.std.specs.List.{list_any, range_with_len}
use Rattle.ps_bench_cases.specs.Meant.{Expected, expected_in}
use Rattle.ps_bench_cases.specs.declared.case.Act.{Act}
use Rattle.ps_bench_cases.specs.declared.case.Act.TheVariants.{Expect}
use Rattle.ps_bench_cases.specs.declared.case.Check.{Check}
use Rattle.ps_bench_cases.specs.declared.case.Check.TheVariants.{Trip, NoTrip, Among, Not}
use Rattle.ps_bench_cases.specs.declared.case.Statement.{Statement}
use Rattle.ps_bench_judge.specs.declared.checks.Failure.{Failure}
use Rattle.ps_model.specs.Network.{Network, input_count, instance_count}
use Rattle.ps_bench_report.specs.declared.marks.Mark.{Mark}
use Rattle.ps_bench_report.specs.declared.marks.TheConstants.{MOST_NAMES}
use Rattle.ps_bench_names.specs.declared.name.Name.{Name}
use Rattle.ps_bench_names.specs.declared.name.Name.TheVariants.{Code, Pin, Signal}

-- ---- what is expected

-- whether one of these failures is of a line
abbrev pub fails_at : List Failure → (line : ℕ) → Bool
fails_at failures line = list_any (λ (f : Failure). f.line == line) failures

-- an expectation of a line by its scan, and whether it failed
abbrev pub mark_of : List Failure → Expected → Mark
mark_of failures e = record { scan = e.what.scan; line = e.line; failed = fails_at failures e.line }

-- the expectations of statements, in their order
abbrev pub marks_in : List Failure → List Statement → List Mark
marks_in failures statements = map (mark_of failures) (expected_in statements)

-- ---- what is shown by name

-- two names are of the same thing
abbrev pub is_name : Name → Name → Bool
is_name (Signal s) (Signal t) = s == t
is_name (Code i) (Code j) = i == j
is_name (Pin i p) (Pin j q) = i == j && p == q
is_name _ _ = false

-- one of these names is that one
abbrev pub has_name : List Name → Name → Bool
has_name names name = list_any (λ other. is_name other name) names

-- one more name after others, unless it is there or there are as many as are shown
abbrev pub with_name : List Name → Name → List Name
with_name names name =
    if nat_lt (length names) MOST_NAMES && not (has_name names name) then names ++ name ∷ [] else names

-- with an input or an output
abbrev pub with_signal : List Name → ℕ → List Name
with_signal names s = with_name names (Signal s)

-- with an instance
abbrev pub with_code : List Name → ℕ → List Name
with_code names i = with_name names (Code i)

-- with the name that a check looks at
abbrev pub with_checked : List Name → Check → List Name
with_checked names Trip = names
with_checked names NoTrip = names
with_checked names (Among name values) = with_name names name
with_checked names (Not name value) = with_name names name

-- with the names that a line expects something of
abbrev pub with_expected : List Name → Act → List Name
with_expected names (Expect what) = fold with_checked names what.checks
with_expected names _ = names

-- with those that statements expect something of
abbrev pub with_statements : List Name → List Statement → List Name
with_statements names statements = fold (λ ns (s : Statement). with_expected ns s.act) names statements

-- how many inputs and outputs there are, 65,535 at most
abbrev pub io_count : Network → ℕ
io_count net = min (input_count net + length net.outputs) 65535

-- the inputs, the outputs and the instances
abbrev pub names_of : Network → List Name
names_of net =
    fold with_code (fold with_signal [] (range_with_len 0 (io_count net))) (range_with_len 0 (instance_count net))

-- The names that are shown of a case: inputs, outputs and instances, and what it expects something of, each once, and
-- of more than are shown the first.
abbrev pub names_shown : Network → List Statement → List Name
names_shown net statements = with_statements (names_of net) statements
