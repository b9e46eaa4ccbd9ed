-- What is written: a piece, and the lines of a run.
use Rattle.std.specs.Prelude.{◌≡◌, ℕ, List, ◌++◌, take, Result, Ok, Err}
use Rattle.ps_outside.specs.declared.sink.Stopped.{Stopped}
use Rattle.ps_trace.specs.Scans.{End}
use Rattle.ps_trace.specs.Scans.End.{whole, refused}
use Rattle.ps_runs.specs.declared.items.Cut.{Cut}
use Rattle.ps_runs.specs.declared.items.Cut.TheVariants.{Refused, Unread, Unwritten}

-- a piece was written whole, or as far as it was taken
abbrev pub IsWritten : {A : Type 0} → Result A Stopped → List ℕ → (before after : List ℕ) → Type 0
IsWritten (Ok done) piece before after = after ≡ before ++ piece
IsWritten (Err stop) piece before after = after ≡ before ++ take stop.taken piece

-- these bytes begin a text
abbrev pub IsBeginningOf : (bytes text : List ℕ) → Type 0
IsBeginningOf bytes text = (owed : List ℕ) × (bytes ++ owed ≡ text)

-- A run that has these lines, and ends at the end of its trace or at a refusal, wrote these bytes: all lines, where
-- it came to its end; and a beginning of them, where a read or a write failed.
abbrev pub WritesLines : (lines : List ℕ) → End → (bytes : List ℕ) → Result (Unit {0}) Cut → Type 0
WritesLines lines end bytes (Ok done) = (bytes ≡ lines) × (end ≡ whole)
WritesLines lines end bytes (Err (Refused refusal)) = (bytes ≡ lines) × (end ≡ refused refusal)
WritesLines lines end bytes (Err Unread) = IsBeginningOf bytes lines
WritesLines lines end bytes (Err Unwritten) = IsBeginningOf bytes lines

-- a run came to its end, at the end of its trace or at a refusal
abbrev pub HasEnded : Result (Unit {0}) Cut → Type 0
HasEnded (Ok done) = Unit {0}
HasEnded (Err (Refused refusal)) = Unit {0}
HasEnded (Err Unread) = ⊥
HasEnded (Err Unwritten) = ⊥
