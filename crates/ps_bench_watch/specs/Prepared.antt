-- A run before its first scan, with who watches it.
use Rattle.std.specs.Prelude.{◌≡◌, ℕ, false, Bool, IsTrue, List, ◌++◌, length, Result}
use Rattle.ps_bench_words.specs.declared.asking.Layout.{Layout}
use Rattle.ps_bench_words.specs.declared.asking.Layout.TheVariants.{Text as AsText, Csv as AsCsv, Json as AsJson, Vcd}
use Rattle.ps_bench_names.specs.declared.name.Name.{Name}
use Rattle.ps_bench_judge.specs.Runs.{moments_of}
use Rattle.ps_model.specs.Meaning.{Meaning, nothing}
use Rattle.ps_model.specs.Network.{Network}
use Rattle.ps_model.specs.Scanning.{State}
use Rattle.ps_runs.specs.Performing.{IsStruckWorldFor}
use Rattle.ps_runs.specs.Resting.{answered}
use Rattle.ps_runs.specs.Running.{Fits, IsBeginning}
use Rattle.ps_runs.specs.Watching.{IsWatchedFor, StandsAt}
use Rattle.ps_runs.specs.Written.{WritesLines}
use Rattle.ps_runs.specs.declared.items.Cut.{Cut}
use Rattle.ps_runs.specs.declared.striking.StruckWorld.{StruckWorld}
use Rattle.ps_runs.specs.declared.watching.Watched.{Watched}
use Rattle.ps_trace.specs.Scans.{Scans}
use Rattle.ps_bench_waves.specs.DumpWriter.{has_begun, wire_count}
use Rattle.ps_bench_waves.specs.Watched.{IsBegun}
use Rattle.ps_bench_waves.specs.Watcher.{IsWatcherFor}
use Rattle.ps_bench_waves.specs.declared.format.Format.{Format}
use Rattle.ps_bench_waves.specs.declared.format.Format.TheVariants.{Text, Csv, Json}
use Rattle.ps_bench_watch.specs.Asking.{body_in, head_in, seen_of_run}
use Rattle.ps_bench_waves.specs.Dumped.{dump_text}
use Rattle.ps_bench_waves.specs.Dumping.{IsDumperFor}
use Rattle.ps_bench_waves.specs.Parts.{parts_of}
use Rattle.ps_bench_watch.specs.Showing.{Run}
use Rattle.ps_bench_waves.specs.declared.dumper.Dumper.{Dumper}
use Rattle.ps_bench_watch.specs.declared.player.Player.{Player}
use Rattle.ps_bench_watch.specs.declared.player.Player.TheVariants.{Lines, Changes}
use Rattle.ps_bench_watch.specs.declared.watching.Prepared.{Prepared}

-- the layout of a format
abbrev pub layout_of : Format → Layout
layout_of Text = AsText
layout_of Csv = AsCsv
layout_of Json = AsJson

-- the world of a run and the evaluator beside it
abbrev pub performer_of : Player → Watched StruckWorld
performer_of (Lines runner) = runner.performer
performer_of (Changes runner) = runner.performer

-- who makes a run and watches it has the application's sizes
abbrev pub IsPlayerFor : Network → Player → Type 0
IsPlayerFor net (Lines runner) = Fits (IsWatchedFor IsStruckWorldFor net) (IsWatcherFor net) net runner
IsPlayerFor net (Changes runner) = Fits (IsWatchedFor IsStruckWorldFor net) (IsDumperFor net) net runner

-- A run whose value changes are written is at its beginning.
pub record IsDumpBegun (net : Network) (names : List Name) (p : Watched StruckWorld) (d : Dumper) : Type 0 where
  pub world : IsBeginning net p.performer
  pub evaluator : StandsAt net nothing p.evaluator
  pub parts : d.parts.items ≡ parts_of names
  pub wires : wire_count d.dump ≡ length d.parts.items
  pub fresh : has_begun d.dump ≡ false
  pub next : d.next ≡ record { number = 1; is_restarted = false }

-- who makes a run and watches it is at its beginning, and will write in this layout of these names
abbrev pub IsPlayerOf : Network → Layout → List Name → Player → Type 0
IsPlayerOf net layout names (Lines runner) =
    (format : Format) × (layout ≡ layout_of format) × IsBegun net format names runner.performer runner.taker
IsPlayerOf net layout names (Changes runner) = (layout ≡ Vcd) × IsDumpBegun net names runner.performer runner.taker

-- it is this run, and what stands before its first scan
pub record IsPrepared (net : Network) (layout : Layout) (run : Run) (p : Prepared) : Type 0 where
  pub head : p.head ≡ head_in net layout run.names
  pub player : IsPlayerOf net layout run.names p.player
  pub setup : (performer_of p.player).performer.world.setup ≡ run.setup
  pub faults : (performer_of p.player).performer.faults ≡ run.faults

-- The value changes of a run over the scans of a trace were written, where it is made by a world that faults strike.
pub record PlaysDump (net : Network) (names : List Name) (p : StruckWorld) (scans : Scans) (tells : Bool)
    (before after : List ℕ) (ended : Result (Unit {0}) Cut) : Type 0 where
  pub bytes : List ℕ
  pub written : IsTrue tells → after ≡ before ++ bytes
  pub lines : (ws : List State) → Meaning net scans.items ws →
      WritesLines (dump_text net names scans.items
      (moments_of net nothing scans.items (answered net p.faults 1 scans.items p.world) ws)) scans.end bytes ended

-- A run over the scans of a trace wrote what was to be written of them after its head.
pub record Plays (net : Network) (layout : Layout) (run : Run) (scans : Scans) (tells : Bool) (before after : List ℕ)
    (ended : Result (Unit {0}) Cut) : Type 0 where
  pub bytes : List ℕ
  pub written : IsTrue tells → after ≡ before ++ bytes
  pub lines : (ws : List State) → Meaning net scans.items ws →
      WritesLines (body_in net layout run.names scans.items (seen_of_run net run scans.items ws)) scans.end bytes ended
