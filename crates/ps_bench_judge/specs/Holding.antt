-- When an expectation holds of a run, and how a case fails.
use Rattle.std.specs.Prelude.{◌≤◌, ℕ, Bool, true, false, not, ◌+◌, ◌&&◌, ◌||◌, ◌==◌, List, [], ◌∷◌, ◌++◌}
use Rattle.std.specs.Prelude.{max, nat_le, Option, Some, None, if◌then◌else◌, length, option_map, replicate, slice_get}
use Rattle.std.specs.List.{list_all, list_any, position, filter}
use Rattle.ps_model.specs.declared.channel.Verdict.TheVariants.{Released}
use Rattle.ps_model.specs.Fields.{blank_report}
use Rattle.ps_model.specs.Network.{Network, instance_count, signal_count}
use Rattle.ps_model.specs.Stored.{bit}
use Rattle.ps_bench_cases.specs.declared.case.Check.{Check}
use Rattle.ps_bench_cases.specs.declared.case.Check.TheVariants.{Trip, NoTrip, Among, Not}
use Rattle.ps_bench_cases.specs.declared.case.Window.{Window}
use Rattle.ps_bench_cases.specs.declared.case.Window.TheVariants.{Now, Within, For}
use Rattle.ps_bench_judge.specs.Moments.{Moment, is_stopped, trips}
use Rattle.ps_bench_judge.specs.Named.{value_in}
use Rattle.ps_bench_judge.specs.declared.checks.Failure.{Failure}
use Rattle.ps_bench_judge.specs.declared.checks.Why.TheVariants.{Broken, Ended, Tripped}

-- ---- the checks of an expectation in one scan

-- a value is one of these
abbrev pub is_among : List ℕ → ℕ → Bool
is_among values value = list_any (λ v. v == value) values

-- a check holds in a scan
abbrev pub check_holds : Network → Moment → Check → Bool
check_holds net m Trip = is_stopped m.verdict
check_holds net m NoTrip = not (is_stopped m.verdict)
check_holds net m (Among name values) = is_among values (value_in net m name)
check_holds net m (Not name value) = not (value_in net m name == value)

-- all checks hold in a scan
abbrev pub all_hold : Network → List Check → Moment → Bool
all_hold net checks m = list_all (check_holds net m) checks

-- the value that a check looks at: of a trip 1 where the scan tripped or is down
abbrev pub shown : Network → Moment → Check → ℕ
shown net m Trip = bit (is_stopped m.verdict)
shown net m NoTrip = bit (is_stopped m.verdict)
shown net m (Among name values) = value_in net m name
shown net m (Not name value) = value_in net m name

-- the place of the first check that does not hold, if one does not
abbrev pub broken_in : Network → List Check → Moment → Option ℕ
broken_in net checks m = position (λ c. not (check_holds net m c)) checks

-- the value that the check at a place looks at
abbrev pub shown_at : Network → Moment → Option Check → ℕ
shown_at net m (Some check) = shown net m check
shown_at net m None = 0

-- the failure by the check at a place
abbrev pub failure_by : Network → (line : ℕ) → List Check → Moment → (place : ℕ) → Failure
failure_by net line checks m place =
    record { line = line; now = m.now; why = Broken place (shown_at net m (slice_get checks place)) }

-- the failure by the first check that does not hold in a scan, if one does not
abbrev pub failure_in : Network → (line : ℕ) → List Check → Moment → Option Failure
failure_in net line checks m = option_map (failure_by net line checks m) (broken_in net checks m)

-- ---- windows

-- the scans of a window that ends at this time, those that are at most so late
abbrev pub in_window : (end : ℕ) → List Moment → List Moment
in_window end ms = filter (λ n. nat_le n.now end) ms

-- the time of the last scan, where one at this time stands before these
abbrev pub last_time : ℕ → List Moment → ℕ
last_time t [] = t
last_time t (m ∷ ms) = last_time m.now ms

-- the case ended, at this time, before a window did
abbrev pub ended : (line now : ℕ) → Failure
ended line now = record { line = line; now = now; why = Ended }

-- No failure comes of scans that go on to the end of the window; else the case ends before.
abbrev pub unless_ended : (line end last : ℕ) → Option Failure → Option Failure
unless_ended line end last failure = if nat_le end last then failure else Some (ended line last)

-- the first of two, and where that is none the second
abbrev pub first_of : {X : Type 0} → Option X → Option X → Option X
first_of (Some x) other = Some x
first_of None other = other

-- the first failure among scans, if there is one
abbrev pub first_failure : Network → (line : ℕ) → List Check → List Moment → Option Failure
first_failure net line checks [] = None
first_failure net line checks (m ∷ ms) = first_of (failure_in net line checks m) (first_failure net line checks ms)

-- `for`: the first scan of the window that breaks a check fails it; else the case has to go on to the window's end.
abbrev pub for_failure : Network → (line end : ℕ) → List Check → (t : ℕ) → List Moment → Option Failure
for_failure net line end checks t ms =
    first_of (first_failure net line checks (in_window end ms)) (unless_ended line end (last_time t ms) None)

-- the last failure among scans, and else the one before them
abbrev pub last_failure : Network → (line : ℕ) → List Check → Option Failure → List Moment → Option Failure
last_failure net line checks latest [] = latest
last_failure net line checks latest (m ∷ ms) = last_failure net line checks (failure_in net line checks m) ms

-- `within`: all checks hold together in one scan of the window; else the last scan of the window fails it.
abbrev pub within_failure : Network → (line end : ℕ) → List Check → Option Failure → (t : ℕ) → List Moment → Option Failure
within_failure net line end checks latest t ms =
    if list_any (all_hold net checks) (in_window end ms) then None
    else unless_ended line end (last_time t ms) (last_failure net line checks latest (in_window end ms))

-- The failure of an expectation of a line, of a scan and those after it, if it does not hold of them.
abbrev pub failure_of : Network → (line : ℕ) → Window → List Check → Moment → List Moment → Option Failure
failure_of net line Now checks m later = failure_in net line checks m
failure_of net line (Within d) checks m later = within_failure net line (m.now + d) checks None m.now (m ∷ later)
failure_of net line (For d) checks m later = for_failure net line (m.now + d) checks m.now (m ∷ later)

-- ---- a case

-- What comes in a run of a case, in order: a scan with the line that made it, and a line that expects something of the
-- scan before it.
pub data Event : Type 0 where
  scanned : (line : ℕ) (m : Moment) → Event
  expects : (line : ℕ) (window : Window) (checks : List Check) → Event

-- the scans among these
abbrev pub moments : List Event → List Moment
moments [] = []
moments (scanned line m ∷ events) = m ∷ moments events
moments (expects line window checks ∷ events) = moments events

-- the check is `trip`
abbrev pub is_trip : Check → Bool
is_trip Trip = true
is_trip _ = false

-- one of the checks is
abbrev pub expects_trip : List Check → Bool
expects_trip checks = list_any is_trip checks

-- trips are expected before this time, in ms, by a window with `trip` of a scan at t
abbrev pub awaited : (window : Window) → (t before : ℕ) → ℕ
awaited Now t before = before
awaited (Within d) t before = max before (t + d + 1)
awaited (For d) t before = max before (t + d + 1)

-- the same after an expectation
abbrev pub awaited_by : Window → List Check → (t before : ℕ) → ℕ
awaited_by window checks t before = if expects_trip checks then awaited window t before else before

-- one of the expectations of the scan before these, of which there are more until the next scan, is with `trip`
abbrev pub trip_follows : List Event → Bool
trip_follows [] = false
trip_follows (scanned line m ∷ events) = false
trip_follows (expects line window checks ∷ events) = expects_trip checks || trip_follows events

-- a scan tripped
abbrev pub tripped_at : (line now : ℕ) → Failure
tripped_at line now = record { line = line; now = now; why = Tripped }

-- a scan that trips at or after the time before which trips are expected
abbrev pub is_sudden : (before : ℕ) → Moment → Bool
is_sudden before m = trips m.verdict && nat_le before m.now

-- what is there where a test fails
abbrev pub unless : {X : Type 0} → Bool → X → Option X
unless b x = if b then None else Some x

-- the failure of a scan that trips and that no expectation awaits, neither one before it nor one of its own
abbrev pub sudden_failure : (before line : ℕ) → Moment → List Event → Option Failure
sudden_failure before line m events =
    if is_sudden before m then unless (trip_follows events) (tripped_at line m.now) else None

-- one failure or none
abbrev pub listed : Option Failure → List Failure
listed None = []
listed (Some f) = f ∷ []

-- The failures of a case of which these events are left, after a scan, where trips are expected before a time in ms.
abbrev pub failures_behind : Network → Moment → (before : ℕ) → List Event → List Failure
failures_behind net m before [] = []
failures_behind net m before (scanned line n ∷ events) =
    listed (sudden_failure before line n events) ++ failures_behind net n before events
failures_behind net m before (expects line window checks ∷ events) =
    listed (failure_of net line window checks m (moments events))
    ++ failures_behind net m (awaited_by window checks m.now before) events

-- what stands before the first scan, at 0 ms: every output and every signal is FALSE, and each instance is Idle
abbrev pub no_scan : Network → Moment
no_scan net = record {
  now = 0;
  verdict = Released;
  report = blank_report (length net.outputs) (instance_count net);
  before = replicate (signal_count net) false;
  signals = replicate (signal_count net) false;
}

-- The failures of a case, whose lines expect something after its first scan at the earliest. It passes exactly where
-- there are none.
abbrev pub failures : Network → List Event → List Failure
failures net events = failures_behind net (no_scan net) 0 events

-- scans that are not before this time, and none before the one in front of it
abbrev pub AreFrom : ℕ → List Moment → Type 0
AreFrom t [] = Unit {0}
AreFrom t (m ∷ ms) = (t ≤ m.now) × AreFrom m.now ms
