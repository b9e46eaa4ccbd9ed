-- What a judge still owes: which failures of a case it has told, and which are yet to be told by what it keeps.
use Rattle.std.specs.Prelude.{ℕ, Bool, ◌&&◌, List, Option, Some, None}
use Rattle.std.specs.List.{list_all}
use Rattle.ps_bench_cases.specs.declared.case.Check.{Check}
use Rattle.ps_model.specs.Network.{Network}
use Rattle.ps_bench_judge.specs.Moments.{Moment}
use Rattle.ps_bench_judge.specs.Holding.{Event, failures_behind, for_failure, listed, moments, trip_follows, unless}
use Rattle.ps_bench_judge.specs.Holding.{within_failure}
use Rattle.ps_bench_judge.specs.declared.checks.Failure.{Failure}
use Rattle.ps_bench_judge.specs.declared.judge.Judge.{Judge}
use Rattle.ps_bench_judge.specs.declared.watch.Outcome.{Outcome}
use Rattle.ps_bench_judge.specs.declared.watch.Outcome.TheVariants.{Open, Met, Failed}
use Rattle.ps_bench_judge.specs.declared.watch.Watch.{Watch}
use Rattle.ps_bench_judge.specs.declared.watch.Way.{Way}
use Rattle.ps_bench_judge.specs.declared.watch.Way.TheVariants.{Within, For}

-- what an open expectation of this way makes of the scans that are left, after one at time t
abbrev pub left_by : Network → (line end : ℕ) → List Check → Way → (t : ℕ) → List Moment → Option Failure
left_by net line end checks (Within latest) t ms = within_failure net line end checks latest t ms
left_by net line end checks For t ms = for_failure net line end checks t ms

-- what an open expectation makes of the scans that are left
abbrev pub left : Network → Watch → (t : ℕ) → List Moment → Option Failure
left net w t ms = left_by net w.line w.end w.checks.now w.way t ms

-- the same of one that is open, met or failed
abbrev pub outcome_left : Network → Outcome → (t : ℕ) → List Moment → Option Failure
outcome_left net (Open w) t ms = left net w t ms
outcome_left net Met t ms = None
outcome_left net (Failed f) t ms = Some f

-- the failure of a scan that trips, unless one of the next expectations is with `trip`
abbrev pub sudden_left : Option Failure → List Event → Option Failure
sudden_left None events = None
sudden_left (Some f) events = unless (trip_follows events) f

-- a test of the failure, if there is one
abbrev pub passes : (Failure → Bool) → Option Failure → Bool
passes p failure = list_all p (listed failure)

-- a test of what open expectations make of the scans that are left
abbrev pub open_pass : Network → (Failure → Bool) → List Watch → (t : ℕ) → List Moment → Bool
open_pass net p watches t ms = list_all (λ w. passes p (left net w t ms)) watches

-- A test of every failure that is told, or yet to be told of these events, which come after a scan.
abbrev pub owed : Network → (Failure → Bool) → Judge → Moment → List Event → Bool
owed net p judge m events =
    list_all p judge.told.items
    && (open_pass net p judge.watches.items m.now (moments events)
    && (passes p (sudden_left judge.sudden events)
    && list_all p (failures_behind net m judge.awaited events)))
