-- What is written of the scans of a trace, by what they answer and mean.
use Rattle.std.specs.Prelude.{◌≡◌, ℕ, Bool, true, false, IsTrue, List, ◌++◌, map, Result}
use Rattle.ps_bench_names.specs.declared.name.Name.{Name}
use Rattle.ps_bench_judge.specs.Runs.{moments_of}
use Rattle.ps_model.specs.Meaning.{Item, Meaning, nothing}
use Rattle.ps_model.specs.Network.{Network}
use Rattle.ps_model.specs.Scanning.{State}
use Rattle.ps_runs.specs.Resting.{answered}
use Rattle.ps_runs.specs.Running.{IsBeginning}
use Rattle.ps_runs.specs.Watching.{StandsAt}
use Rattle.ps_runs.specs.Written.{WritesLines}
use Rattle.ps_runs.specs.declared.items.Cut.{Cut}
use Rattle.ps_runs.specs.declared.striking.StruckWorld.{StruckWorld}
use Rattle.ps_runs.specs.declared.watching.Watched.{Watched}
use Rattle.ps_trace.specs.Scans.{Scans}
use Rattle.ps_bench_waves.specs.Watching.{at_first, items_text}
use Rattle.ps_bench_waves.specs.declared.column.Column.{Column}
use Rattle.ps_bench_waves.specs.declared.format.Format.{Format}
use Rattle.ps_bench_waves.specs.declared.watcher.Watcher.{Watcher}

-- A run that is watched is at its beginning: its world and its evaluator are, and its watcher watches these names and
-- has seen nothing.
pub record IsBegun (net : Network) (format : Format) (names : List Name) (p : Watched StruckWorld)
    (w : Watcher) : Type 0 where
  pub world : IsBeginning net p.performer
  pub evaluator : StandsAt net nothing p.evaluator
  pub format_is : w.format ≡ format
  pub names_are : map (λ (c : Column). c.name) w.columns.items ≡ names
  pub is_first : w.next.is_first ≡ true
  pub not_restarted : w.next.is_restarted ≡ false

-- The lines of items that mean these states: of each scan the values of the names, those that the run answers, as
-- `fault` has it with the same faults, and those that are meant.
abbrev pub lines_of : Network → Format → List Name → StruckWorld → List Item → List State → List ℕ
lines_of net format names p items ws =
    items_text net format names at_first items
    (moments_of net nothing items (answered net p.faults 1 items p.world) ws)

-- A run over the scans of a trace wrote what was to be written of them: whichever states they mean, of which there is
-- one list.
pub record WritesWatched (net : Network) (format : Format) (names : List Name) (p : StruckWorld) (scans : Scans)
    (tells : Bool) (before after : List ℕ) (ended : Result (Unit {0}) Cut) : Type 0 where
  pub bytes : List ℕ
  pub written : IsTrue tells → after ≡ before ++ bytes
  pub lines : (ws : List State) → Meaning net scans.items ws →
      WritesLines (lines_of net format names p scans.items ws) scans.end bytes ended
