-- The failures of a case, each in a sentence.
use Rattle.std.specs.Prelude.{ℕ, ◌==◌, List, [], ◌∷◌, ◌++◌, codes, decimal, if◌then◌else◌, slice_get}
use Rattle.std.specs.List.{flat_map}
use Rattle.std.specs.Option.{option_map_or}
use Rattle.ps_bench_cases.specs.declared.case.Act.{Act}
use Rattle.ps_bench_cases.specs.declared.case.Act.TheVariants.{Expect}
use Rattle.ps_bench_cases.specs.declared.case.Check.{Check}
use Rattle.ps_bench_cases.specs.declared.case.Check.TheVariants.{Trip, NoTrip, Among, Not}
use Rattle.ps_bench_cases.specs.declared.case.Expectation.{Expectation}
use Rattle.ps_bench_names.specs.declared.name.Name.{Name}
use Rattle.ps_bench_cases.specs.declared.case.Statement.{Statement}
use Rattle.ps_bench_cases.specs.declared.case.Window.{Window}
use Rattle.ps_bench_cases.specs.declared.case.Window.TheVariants.{Now, Within, For}
use Rattle.ps_bench_judge.specs.declared.checks.Failure.{Failure}
use Rattle.ps_bench_judge.specs.declared.checks.Why.{Why}
use Rattle.ps_bench_judge.specs.declared.checks.Why.TheVariants.{Broken, Ended, Tripped}
use Rattle.ps_model.specs.Network.{Network}
use Rattle.ps_bench_test.specs.Naming.{name_text, value_text}
use Rattle.ps_bench_test.specs.Placing.{from_line}

-- values of which one is expected, as `8000 enabled or 8001 first state`
abbrev pub values_text : Network → Name → List ℕ → List ℕ
values_text net name [] = []
values_text net name (v ∷ vs) = value_text net name v ++ flat_map (λ w. codes " or " ++ value_text net name w) vs

-- in which scans it is expected, as ` within 500 ms`
abbrev pub window_text : Window → List ℕ
window_text Now = []
window_text (Within d) = codes " within " ++ decimal d ++ codes " ms"
window_text (For d) = codes " for " ++ decimal d ++ codes " ms"

-- a name with the value that it has, before what is expected
abbrev pub found_text : Network → Name → (value : ℕ) → List ℕ
found_text net name value = name_text net name ++ codes " is " ++ value_text net name value ++ codes ", expected "

-- what a check found, and what it expects
abbrev pub check_text : Network → Check → (value : ℕ) → List ℕ
check_text net Trip value = codes "no trip"
check_text net NoTrip value = codes "a trip, expected none"
check_text net (Among name values) value = found_text net name value ++ values_text net name values
check_text net (Not name other) value = found_text net name value ++ codes "another value"

-- why an expectation fails by the check at a place
abbrev pub broken_text : Network → Expectation → (place value : ℕ) → List ℕ
broken_text net e place value =
    option_map_or (λ c. check_text net c value) (slice_get e.checks place) [] ++ window_text e.window

-- how long the case would have to go on
abbrev pub over_text : Window → List ℕ
over_text Now = []
over_text (Within d) = codes " " ++ decimal d ++ codes " ms are over"
over_text (For d) = codes " " ++ decimal d ++ codes " ms are over"

-- why an expectation fails: by a check, or since the case ends
abbrev pub unmet_text : Network → Expectation → Why → List ℕ
unmet_text net e (Broken place value) = broken_text net e place value
unmet_text net e Ended = codes "the case ends before" ++ over_text e.window
unmet_text net e Tripped = codes "a trip that nothing expects"

-- why what a line does fails the case: what it expects does not hold, or a scan of it trips
abbrev pub why_text : Network → Act → Why → List ℕ
why_text net (Expect e) why = unmet_text net e why
why_text net act why = codes "a trip that nothing expects"

-- a failure of a line, as `line 23: no trip within 500 ms (at 560 ms)`
abbrev pub failure_text : Network → Statement → Failure → List ℕ
failure_text net s f =
    codes "line " ++ decimal f.line ++ codes ": " ++ why_text net s.act f.why ++ codes " (at " ++ decimal f.now
    ++ codes " ms)\n"

-- a failure after a mark, where its line is the first of these statements
abbrev pub marked : Network → (mark : List ℕ) → Failure → List Statement → List ℕ
marked net mark f [] = []
marked net mark f (s ∷ ss) = if s.line == f.line then mark ++ failure_text net s f else []

-- the failures of statements, in the order of their lines, each in a line of its own after a mark
abbrev pub failures_text : Network → (mark : List ℕ) → List Statement → List Failure → List ℕ
failures_text net mark ss [] = []
failures_text net mark ss (f ∷ fs) =
    let rest = from_line f.line ss in marked net mark f rest ++ failures_text net mark rest fs
