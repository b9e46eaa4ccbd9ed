-- That what `live` writes of lines is what `run`, and `fault` without faults, write of a trace with the same lines.
use Rattle.std.specs.Prelude.{◌≡◌, [], ◌++◌, ℕ, Bool, false, List}
use Rattle.ps_lines.specs.Lines.{Line}
use Rattle.ps_model.specs.Network.{Network}
use Rattle.ps_top.specs.Asking.{Answer, IsAnswer}
use Rattle.ps_top.specs.Program.{answer, end_line, end_status, fault, run}
use Rattle.ps_top.specs.Untripped.{AreHeld, HasFaults, Held}
use Rattle.ps_trace.specs.Scans.{End, trace_lines}
use Rattle.ps_bench_watch.specs.Living.{AreRun}

-- what is written of lines that end so, where no scan trips: what was said of them, and after it the line of the
-- refusal, where the last one is refused
abbrev pub whole_answer : (said : List ℕ) → End → Answer
whole_answer said end = answer (said ++ end_line end) (end_status end [])

-- Of the first lines of a stream was said, by report lines, what `run` answers to a trace with just these lines.
abbrev pub SaysAsRun : Network → Type 0
SaysAsRun net =
    (bytes : List ℕ) (left : List Line) (end : End) (said : List ℕ) (trips : Bool)
    (are : AreRun false net bytes left end said trips) (held : Held) (app trace text : List ℕ) →
    AreHeld held app trace net text → trace_lines text ≡ are.done →
    IsAnswer (run app trace) held (whole_answer said end)

-- Of them was said what `fault` answers to such a trace with a fault file that has no faults.
abbrev pub SaysAsFault : Network → Type 0
SaysAsFault net =
    (bytes : List ℕ) (left : List Line) (end : End) (said : List ℕ) (trips : Bool)
    (are : AreRun false net bytes left end said trips) (held : Held) (app trace name text : List ℕ) →
    AreHeld held app trace net text → HasFaults held name net are.world.setup [] → trace_lines text ≡ are.done →
    IsAnswer (fault app trace name) held (whole_answer said end)

-- And no scan of them trips, however they are told.
abbrev pub NoneTrips : Network → Type 0
NoneTrips net =
    (by_name : Bool) (bytes : List ℕ) (left : List Line) (end : End) (said : List ℕ) (trips : Bool)
    (are : AreRun by_name net bytes left end said trips) (held : Held) (app trace text : List ℕ) →
    AreHeld held app trace net text → trace_lines text ≡ are.done → trips ≡ false
