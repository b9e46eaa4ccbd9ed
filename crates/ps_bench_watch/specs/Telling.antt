-- Who makes the scans of a stream and tells of them, before the first.
use Rattle.std.specs.Prelude.{◌≡◌, ◌≤◌, [], Bool, true, false, map}
use Rattle.ps_model.specs.Network.{Network}
use Rattle.ps_report.specs.Lines.{line_room}
use Rattle.ps_runs.specs.Performing.{IsStruckWorldFor}
use Rattle.ps_runs.specs.Running.{Fits, IsBeginning}
use Rattle.ps_runs.specs.Watching.{IsWatchedFor}
use Rattle.ps_runs.specs.declared.striking.StruckWorld.{StruckWorld}
use Rattle.ps_bench_waves.specs.Names.{main_names}
use Rattle.ps_bench_waves.specs.declared.column.Column.{Column}
use Rattle.ps_bench_waves.specs.declared.format.Format.TheVariants.{Text}
use Rattle.ps_bench_waves.specs.Watched.{IsBegun}
use Rattle.ps_bench_waves.specs.Watcher.{IsWatcherFor}
use Rattle.ps_bench_waves.specs.declared.watcher.Watcher.{Watcher}
use Rattle.ps_bench_watch.specs.declared.teller.Teller.{Teller}
use Rattle.ps_bench_watch.specs.declared.teller.Teller.TheVariants.{Lines, Names}

-- whether scans are told by name
abbrev pub is_by_name : Teller → Bool
is_by_name (Lines runner) = false
is_by_name (Names runner) = true

-- who makes the scans and tells of them has the application's sizes
abbrev pub IsTellerFor : Network → Teller → Type 0
IsTellerFor net (Lines runner) = Fits (IsStruckWorldFor net) (λ room. line_room net ≤ room) net runner
IsTellerFor net (Names runner) = Fits (IsWatchedFor IsStruckWorldFor net) (IsWatcherFor net) net runner

-- The run is at its beginning, and no fault strikes it; by name the outputs and the codes of instances are told.
abbrev pub IsUntold : Network → Teller → Type 0
IsUntold net (Lines runner) = IsBeginning net runner.performer × (runner.performer.faults ≡ [])
IsUntold net (Names runner) =
    IsBegun net Text (main_names net) runner.performer runner.taker × (runner.performer.performer.faults ≡ [])

-- The world is that of the application at the beginning of a run, and no fault strikes it.
pub record IsFirstWorld (net : Network) (world : StruckWorld) : Type 0 where
  pub fits : IsStruckWorldFor net world
  pub begins : IsBeginning net world
  pub spared : world.faults ≡ []

-- This writes the outputs and the codes of instances of the application as text, and wrote nothing so far.
pub record IsFirstWatcher (net : Network) (watcher : Watcher) : Type 0 where
  pub fits : IsWatcherFor net watcher
  pub format_is : watcher.format ≡ Text
  pub names_are : map (λ (c : Column). c.name) watcher.columns.items ≡ main_names net
  pub is_first : watcher.next.is_first ≡ true
  pub not_restarted : watcher.next.is_restarted ≡ false

-- who makes the scans and tells of them by name or by report lines, before the first
pub record IsFirstTeller (names : Bool) (net : Network) (teller : Teller) : Type 0 where
  pub fits : IsTellerFor net teller
  pub untold : IsUntold net teller
  pub by_name : is_by_name teller ≡ names
