-- What a watcher has, and what it makes of an outcome.
use Rattle.std.specs.Prelude.{◌≡◌, ◌≤◌, ◌+◌, ℕ, true, false, All, List, [], map}
use Rattle.ps_bench_judge.specs.Moments.{Moment}
use Rattle.ps_model.specs.declared.channel.Verdict.{Verdict}
use Rattle.ps_model.specs.declared.report.Report.{Report}
use Rattle.ps_model.specs.Network.{Network}
use Rattle.ps_runs.specs.Outcomes.{Outcome, performed, refuses, anew}
use Rattle.ps_runs.specs.declared.striking.StruckWorld.{StruckWorld}
use Rattle.ps_runs.specs.declared.watching.Watched.{Watched}
use Rattle.ps_bench_waves.specs.Lines.{restart_text, scan_text}
use Rattle.ps_bench_waves.specs.Room.{IsKeyed, cells_of, columns_room, frame_room, renewed}
use Rattle.ps_bench_waves.specs.declared.column.Column.{Column}
use Rattle.ps_bench_waves.specs.declared.watcher.Watcher.{Watcher}

-- A watcher has what stands for its names in this application, and room for every line.
pub record IsWatcherFor (net : Network) (w : Watcher) : Type 0 where
  pub keyed : All (IsKeyed w.format net) w.columns.items
  pub room : frame_room + columns_room w.columns.items ≤ w.line.room

-- what is seen of a scan, after which the evaluator stands so
abbrev pub seen_behind : Watched StruckWorld → (now : ℕ) → Verdict → Report → Moment
seen_behind p now verdict report = record {
  now = now;
  verdict = verdict;
  report = report;
  before = p.evaluator.before.signals;
  signals = p.evaluator.behind.signals;
}

-- its columns in the next scan
abbrev pub next_columns : Network → Watcher → Moment → List Column
next_columns net w m = map (renewed net w.next.is_first m) w.columns.items

-- what it writes of an outcome
abbrev pub watcher_said : Network → Watcher → Watched StruckWorld → Outcome Verdict → List ℕ
watcher_said net w p (performed now verdict report) =
    scan_text net w.format now w.next.is_restarted verdict (cells_of (next_columns net w (seen_behind p now verdict report)))
watcher_said net w p (refuses refusal) = []
watcher_said net w p anew = restart_text w.format

-- A scan was taken.
pub record TakesScan (net : Network) (w : Watcher) (m : Moment) (w' : Watcher) : Type 0 where
  pub format : w'.format ≡ w.format
  pub columns : w'.columns.items ≡ next_columns net w m
  pub is_first : w'.next.is_first ≡ false
  pub is_restarted : w'.next.is_restarted ≡ false

-- A restart was taken.
pub record TakesRestart (w w' : Watcher) : Type 0 where
  pub format : w'.format ≡ w.format
  pub columns : w'.columns.items ≡ w.columns.items
  pub is_first : w'.next.is_first ≡ true
  pub is_restarted : w'.next.is_restarted ≡ true

-- what it becomes by an outcome
abbrev pub watcher_takes : Network → Watcher → Watched StruckWorld → Outcome Verdict → Watcher → Type 0
watcher_takes net w p (performed now verdict report) w' = TakesScan net w (seen_behind p now verdict report) w'
watcher_takes net w p (refuses refusal) w' = ⊥
watcher_takes net w p anew w' = TakesRestart w w'
