-- What is kept of the last scan.
use Rattle.std.specs.Prelude.{◌≡◌, ℕ, Option, Some, None, slice_get}
use Rattle.ps_cover.specs.Covers.{time_of}
use Rattle.ps_model.specs.Meaning.{old_state, passed}
use Rattle.ps_model.specs.Network.{Network}
use Rattle.ps_model.specs.Scanning.{Solves}
use Rattle.ps_why.specs.Scenes.{IsCallOf}
use Rattle.ps_why.specs.declared.keeping.Stepped.{Stepped}
use Rattle.ps_bench_why.specs.Scanned.{Scanned, behind}
use Rattle.ps_bench_why.specs.declared.walker.LastScan.{LastScan}
use Rattle.ps_bench_why.specs.declared.walker.Since.{Since}
use Rattle.ps_bench_why.specs.declared.walker.Walker.{Walker}

-- it is noted since when an instance was in its state before a scan, and is after it
pub record IsSince (s : Scanned) (i : ℕ) (noted : Since) : Type 0 where
  pub before : noted.before ≡ s.before i
  pub behind : noted.behind ≡ behind s i

-- the times of a scan and of the one before it
pub record IsTimed (s : Scanned) (times : LastScan) : Type 0 where
  pub now : times.now ≡ s.now
  pub before : times.before ≡ time_of s.past

-- What is kept is so of a scan of the application: its times, the signals before it and after it, what is seen of each
-- instance, and since when that is in its state.
pub record IsLook (net : Network) (s : Scanned) (w : Walker) : Type 0 where
  pub solves : Solves net (old_state net s.past) s.ins (passed s.past s.now) s.new
  pub times : (times : LastScan) × (w.last ≡ Some times) × IsTimed s times
  pub old : w.evaluator.before.signals ≡ (old_state net s.past).signals
  pub new : w.evaluator.behind.signals ≡ s.new.signals
  pub calls : (i : ℕ) (seen : Stepped) → slice_get w.kept.items i ≡ Some seen →
      IsCallOf net (old_state net s.past) (passed s.past s.now) s.new i seen.call
  pub since : (i : ℕ) (noted : Since) → slice_get w.since.items i ≡ Some noted → IsSince s i noted

-- what is kept is so of the last scan, if there is one
abbrev pub IsLast : Network → Option Scanned → Walker → Type 0
IsLast net None w = w.last ≡ None
IsLast net (Some s) w = IsLook net s w
