-- What scans make of what was shown.
use Rattle.std.specs.Prelude.{◌≡◌, ◌<◌, ◌||◌, ℕ, Bool, false, true, List, Option, Some, None, length, option_map}
use Rattle.std.specs.Prelude.{slice_get, slice_index_or}
use Rattle.std.specs.List.{list_any}
use Rattle.ps_model.specs.Action.{Actual, calls}
use Rattle.ps_model.specs.Kept.{Remains, StandsBy, fresh}
use Rattle.ps_model.specs.Meaning.{Past, last, nothing, old_state}
use Rattle.ps_model.specs.Network.{Network, kind_at}
use Rattle.ps_model.specs.Scanning.{block_in, limit_of}
use Rattle.ps_rows.specs.Counted.{kept_of}
use Rattle.ps_cover.specs.Applying.{ScanStep}
use Rattle.ps_ways.specs.Moving.{counted_of}
use Rattle.ps_cover.specs.Clock.{since}
use Rattle.ps_cover.specs.Covering.{AreCalls, AreScanned, Looks, point_of}
use Rattle.ps_cover.specs.Points.{shows}
use Rattle.ps_cover.specs.declared.block.Called.{Called}
use Rattle.ps_cover.specs.declared.point.Point.{Point}
use Rattle.ps_cover.specs.declared.cover.Cover.{Cover}
use Rattle.ps_machine.specs.declared.signals.Signals.{Signals}

-- it has a call for each step of the application, and knows of each point whether it was shown, with both values
pub record IsCoverFor (net : Network) (c : Cover) : Type 0 where
  pub calls : AreCalls net c.calls.items
  pub off_each : length c.off.items ≡ length c.points.items
  pub on_each : length c.on.items ≡ length c.points.items

-- A scan at a time, with these signals, was taken.
pub record TakesScan (net : Network) (old : Cover) (now : ℕ) (x : Signals) (new : Cover) : Type 0 where
  pub calls : AreScanned net x (since old.clock.last now) old.calls.items new.calls.items
  pub points : new.points.items ≡ old.points.items
  pub off : Looks net x new.calls.items false old.points.items old.off.items new.off.items
  pub on : Looks net x new.calls.items true old.points.items old.on.items new.on.items
  pub last : new.clock.last ≡ Some now

-- a call before the first scan: its block is Idle
abbrev pub idle_call : Called → Called
idle_call c = record { step = c.step; moved = record { from = 0; number = 0; block = counted_of fresh } }

-- a step before the first scan
abbrev pub idle_step : (step : ℕ) → Called
idle_step k = record { step = k; moved = record { from = 0; number = 0; block = counted_of fresh } }

-- All began anew: each block is Idle, and what was shown stays.
pub record BeginsAnew (old : Cover) (new : Cover) : Type 0 where
  pub calls : (k : ℕ) → slice_get new.calls.items k ≡ option_map idle_call (slice_get old.calls.items k)
  pub points : new.points.items ≡ old.points.items
  pub off : new.off.items ≡ old.off.items
  pub on : new.on.items ≡ old.on.items
  pub last : new.clock.last ≡ None

-- what was seen of each point before, or elsewhere, is seen now
pub record JoinsBits (before other after : List Bool) : Type 0 where
  pub each : length after ≡ length before
  pub joined : (n : ℕ) → n < length before →
      slice_index_or after n false ≡ (slice_index_or before n false || slice_index_or other n false)

-- What other scans have shown was added; the calls stay.
pub record Joins (old other new : Cover) : Type 0 where
  pub calls : new.calls.items ≡ old.calls.items
  pub points : new.points.items ≡ old.points.items
  pub last : new.clock.last ≡ old.clock.last
  pub off : JoinsBits old.off.items other.off.items new.off.items
  pub on : JoinsBits old.on.items other.on.items new.on.items

-- All began anew, and what is kept is of the application's sizes still.
pub record Renews (net : Network) (old new : Cover) : Type 0 where
  pub begins : BeginsAnew old new
  pub fits : IsCoverFor net new

-- The calls stand for where a run of the application is: each block for that of the state.
abbrev pub StandsFor : Network → Past → List Called → Type 0
StandsFor net past cs =
    (k i : ℕ) (args : List Actual) (c : Called) → slice_get net.steps k ≡ Some (calls i args) →
    slice_get cs k ≡ Some c →
    StandsBy (Remains (limit_of (kind_at net i) args)) (kept_of c.moved.block) (block_in (old_state net past) i)

-- the time of the scan before, if there is one since the beginning or a restart
abbrev pub time_of : Past → Option ℕ
time_of nothing = None
time_of (last now w) = Some now

-- What was shown stands where a run of the application is.
pub record IsAt (net : Network) (past : Past) (c : Cover) : Type 0 where
  pub fits : IsCoverFor net c
  pub stands : StandsFor net past c.calls.items
  pub time : c.clock.last ≡ time_of past

-- Of each of these points it is known whether it was shown with value b before some scans or by one of them.
pub record KnowsOf (net : Network) (steps : List ScanStep) (points : List Point) (b : Bool)
    (before behind : List Bool) : Type 0 where
  pub each : length behind ≡ length before
  pub seen : (n : ℕ) (p : Point) → slice_get points n ≡ Some p →
      slice_index_or behind n false ≡ (slice_index_or before n false || list_any (shows net b (point_of p)) steps)

-- Of each point it is known so, with both values.
pub record Knows (net : Network) (steps : List ScanStep) (old new : Cover) : Type 0 where
  pub points : new.points.items ≡ old.points.items
  pub off : KnowsOf net steps old.points.items false old.off.items new.off.items
  pub on : KnowsOf net steps old.points.items true old.on.items new.on.items
