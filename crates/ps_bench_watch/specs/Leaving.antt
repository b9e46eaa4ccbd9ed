-- Apparatus: how a run of a stream ends, and what it leaves of the stream and of an output.
use Rattle.std.specs.Prelude.{◌≡◌, ◌≢◌, ◌≤◌, ◌⊎◌, ℕ, Bool, List, [], Result, Ok, Err, OnOk}
use Rattle.ps_outside.specs.Outside.{Rose}
use Rattle.ps_outside.specs.declared.text_fail.TextFail.{TextFail}
use Rattle.ps_outside.specs.declared.text_fail.TextFail.TheVariants.{Refused as IsHeadless, Fault as IsFault}
use Rattle.ps_outside.specs.declared.text_fail.TextFail.TheVariants.{Memory as WantsMemory}
use Rattle.ps_runs.specs.declared.items.Cut.{Cut}
use Rattle.ps_runs.specs.declared.items.Cut.TheVariants.{Unread, Unwritten}
use Rattle.ps_bench_watch.specs.Living.{stop_by}
use Rattle.ps_bench_watch.specs.declared.living.LiveStop.{LiveStop}
use Rattle.ps_bench_watch.specs.declared.living.LiveStop.TheVariants.{Refused as IsRefused, Unread as IsUnread}
use Rattle.ps_bench_watch.specs.declared.living.LiveStop.TheVariants.{Memory as IsNoMemory}

-- Of an output: what is held back, the count of writes that failed, and whether it tells.
pub record Side : Type 0 where
  pub held_back : List ℕ
  pub writes : ℕ
  pub tells : Bool

-- the same from its parts
abbrev pub side : (held_back : List ℕ) (writes : ℕ) (tells : Bool) → Side
side held_back writes tells = record { held_back = held_back; writes = writes; tells = tells }

-- A run ended, at a read or a write that failed, whose count rose, or in another way. Where it was a read, an output
-- that held nothing back before holds nothing back.
pub record Leaves (NotRead NotWritten : Type 0) (reads reads' : ℕ) (before after : Side) : Type 0 where
  pub handed_on : before.held_back ≡ [] → NotRead → after.held_back ≡ []
  pub unread : NotRead → Rose reads reads'
  pub unwritten : NotWritten → Rose before.writes after.writes
  pub writes : before.writes ≤ after.writes
  pub telling : after.tells ≡ before.tells

-- What was said of a line was handed on, or that was cut short, which no read did.
pub record HandsOn (ended : Result (Unit {0}) Cut) (before after : Side) : Type 0 where
  pub handed_on : before.held_back ≡ [] → OnOk ended (after.held_back ≡ [])
  pub no_read : ended ≢ Err Unread
  pub unwritten : ended ≡ Err Unwritten → Rose before.writes after.writes
  pub writes : before.writes ≤ after.writes
  pub telling : after.tells ≡ before.tells

-- How it ends to do an item and to hand on what was written of it: as doing it did, or by a write that failed.
abbrev pub HowHanded : (done ended : Result (Unit {0}) Cut) → (writes writes' : ℕ) → Type 0
HowHanded done ended writes writes' = (ended ≡ done) ⊎ ((done ≡ Ok tt) × (ended ≡ Err Unwritten) × Rose writes writes')

-- An item was done so, and where all of it was, what was written was handed on, or that failed.
pub record IsHandedOn (done ended : Result (Unit {0}) Cut) (before after : Side) : Type 0 where
  pub comes : HowHanded done ended before.writes after.writes
  pub handed_on : OnOk ended (after.held_back ≡ [])
  pub writes : before.writes ≤ after.writes
  pub telling : after.tells ≡ before.tells

-- a run whose lines ended so ends so, by whether a scan of it tripped
abbrev pub ran_by : (trips : Bool) → Result (Unit {0}) Cut → Result Bool LiveStop
ran_by trips (Ok x) = Ok trips
ran_by trips (Err cut) = Err (stop_by cut)

-- a run of whose stream no feed came stops so
abbrev pub headless_by : TextFail → LiveStop
headless_by (IsHeadless refusal) = IsRefused refusal
headless_by IsFault = IsUnread
headless_by WantsMemory = IsNoMemory
