-- What a command leaves of a call, whatever it reads and writes.
use Rattle.std.specs.Prelude.{◌≡◌, ◌≢◌, ℕ, List, Any, Result, IfErr, IsErrOf}
use Rattle.ps_outside.specs.Outside.{Rose}
use Rattle.ps_bench_frame.specs.Ending.{IsUnread}
use Rattle.ps_bench_frame.specs.Seen.{CallSeen, KeepsCall, NameRose, Quiet}
use Rattle.ps_bench_frame.specs.declared.ending.Stop.{Stop}
use Rattle.ps_bench_frame.specs.declared.ending.Stop.TheVariants.{Unwritten}

-- Why a call stops that has read files of these names alone: where one cannot be read, its count rose; and nothing was
-- to be written.
pub record StopsReading (names : List (List ℕ)) (old new : CallSeen) (stop : Stop) : Type 0 where
  pub unread : IsUnread stop → Any (NameRose old new) names
  pub no_write : stop ≢ Unwritten

-- Files of these names alone were read, and nothing was written.
pub record OnlyReads {X : Type 0} (names : List (List ℕ)) (old new : CallSeen) (ended : Result X Stop) : Type 0 where
  pub quiet : Quiet old new
  pub stops : IfErr ended (StopsReading names old new)

-- The same of what also writes: where nothing can be written, the count of the output rose.
pub record Leaves {X : Type 0} (names : List (List ℕ)) (old new : CallSeen) (ended : Result X Stop) : Type 0 where
  pub keeps : KeepsCall old new
  pub unread : IfErr ended (λ stop. IsUnread stop → Any (NameRose old new) names)
  pub unwritten : IsErrOf ended Unwritten → Rose old.out.faults new.out.faults
