-- Why the items of a trace are not all done, and which failures it tells of.
use Rattle.std.specs.Prelude.{◌≡◌, ◌≢◌, ◌≤◌, ℕ, List, Result, Err}
use Rattle.ps_outside.specs.Outside.{Rose, CountsStay}
use Rattle.ps_trace.specs.declared.trace.TraceStop.{TraceStop}
use Rattle.ps_trace.specs.declared.trace.TraceStop.TheVariants.{Refused as IsRefused, Fault as IsFault}
use Rattle.ps_runs.specs.declared.items.Cut.{Cut}
use Rattle.ps_runs.specs.declared.items.Cut.TheVariants.{Refused, Unread, Unwritten}

-- a reader that stops at a line cuts the items short
abbrev pub cut_of : TraceStop → Cut
cut_of (IsRefused refusal) = Refused refusal
cut_of IsFault = Unread

-- What the counts of failed reads, by the names of files, and that of failed writes say of how the items of a trace
-- were done. That a read failed is told only where the count of the trace's file rose, and any other end leaves all
-- counts of reads as they were; and likewise for the writes. No count falls.
pub record TellsFailures (file : List ℕ) (reads reads' : List ℕ → ℕ) (writes writes' : ℕ)
    (ended : Result (Unit {0}) Cut) : Type 0 where
  pub unread : ended ≡ Err Unread → Rose (reads file) (reads' file)
  pub all_read : ended ≢ Err Unread → CountsStay reads reads'
  pub unwritten : ended ≡ Err Unwritten → Rose writes writes'
  pub all_written : ended ≢ Err Unwritten → writes' ≡ writes
  pub reads_rise : (name : List ℕ) → reads name ≤ reads' name
  pub writes_rise : writes ≤ writes'
