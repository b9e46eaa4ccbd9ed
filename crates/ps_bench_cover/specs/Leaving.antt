-- Apparatus: what a call leaves of files and of an output, whatever it reads and writes.
use Rattle.std.specs.Prelude.{◌≡◌, ◌≤◌, ℕ, Bool, List, Option, Result, IfErr, IsErrOf}
use Rattle.ps_bench_frame.specs.Ending.{IsUnread}
use Rattle.ps_bench_frame.specs.declared.ending.Stop.{Stop}
use Rattle.ps_bench_frame.specs.declared.ending.Stop.TheVariants.{Unwritten}
use Rattle.ps_outside.specs.Outside.{Rose}

-- Files and an output: whether each tells, what the files hold, and the counts of reads and of writes that failed.
pub record Sides : Type 0 where
  pub reading : Bool
  pub held : List ℕ → Option (List ℕ)
  pub reads : List ℕ → ℕ
  pub telling : Bool
  pub writes : ℕ

-- of files and an output that are given so
abbrev pub sides : (reading : Bool) (held : List ℕ → Option (List ℕ)) (reads : List ℕ → ℕ) (telling : Bool) (writes : ℕ) → Sides
sides reading held reads telling writes = record {
  reading = reading;
  held = held;
  reads = reads;
  telling = telling;
  writes = writes;
}

-- no count falls, and all else is as it was
pub record Stays (before after : Sides) : Type 0 where
  pub reading : after.reading ≡ before.reading
  pub kept : after.held ≡ before.held
  pub reads : (other : List ℕ) → before.reads other ≤ after.reads other
  pub telling : after.telling ≡ before.telling
  pub writes : before.writes ≤ after.writes

-- A call ended so: where a file cannot be read, its count rose, and where nothing can be written, that of the output.
pub record Leaves {X : Type 0} (IsRisen : Type 0) (before after : Sides) (ended : Result X Stop) : Type 0 where
  pub stays : Stays before after
  pub unread : IfErr ended (λ stop. IsUnread stop → IsRisen)
  pub unwritten : IsErrOf ended Unwritten → Rose before.writes after.writes

-- The same of a call that reads no file.
pub record LeavesOutput {X : Type 0} (tells tells' : Bool) (faults faults' : ℕ) (ended : Result X Stop) : Type 0 where
  pub telling : tells' ≡ tells
  pub writes : faults ≤ faults'
  pub read : IfErr ended (λ stop. ¬ IsUnread stop)
  pub unwritten : IsErrOf ended Unwritten → Rose faults faults'
