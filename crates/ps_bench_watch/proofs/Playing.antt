-- What a run writes, in any layout.
use Rattle.std.proofs.Common.{◌≡◌, ◌∙◌, ℕ, Bool, List, Result, length, refl, sym, ap, subst}
use Rattle.ps_bench_words.specs.declared.asking.Layout.{Layout}
use Rattle.ps_bench_words.specs.declared.asking.Layout.TheVariants.{Vcd}
use Rattle.ps_bench_names.specs.declared.name.Name.{Name}
use Rattle.ps_bench_judge.specs.Runs.{moments_of}
use Rattle.ps_bench_judge.specs.Moments.{Moment}
use Rattle.ps_model.specs.Meaning.{Item, nothing}
use Rattle.ps_model.specs.Network.{Network, instance_count}
use Rattle.ps_model.specs.Scanning.{State}
use Rattle.ps_runs.specs.Resting.{answered}
use Rattle.ps_runs.specs.Running.{IsBeginning}
use Rattle.ps_runs.specs.Written.{WritesLines}
use Rattle.ps_runs.specs.declared.items.Cut.{Cut}
use Rattle.ps_runs.specs.declared.items.Runner.{Runner}
use Rattle.ps_runs.specs.declared.striking.StruckWorld.{StruckWorld}
use Rattle.ps_runs.specs.declared.watching.Watched.{Watched}
use Rattle.ps_trace.specs.Scans.{Scans}
use Rattle.ps_bench_waves.specs.Lines.{head_text}
use Rattle.ps_bench_waves.specs.Watched.{IsBegun, WritesWatched}
use Rattle.ps_bench_waves.specs.Watching.{at_first, items_text}
use Rattle.ps_bench_waves.specs.declared.format.Format.{Format}
use Rattle.ps_bench_waves.specs.declared.format.Format.TheVariants.{Text, Csv, Json}
use Rattle.ps_bench_waves.specs.declared.watcher.Watcher.{Watcher}
use Rattle.ps_world.specs.Answers.{answers, answers_of_run}
use Rattle.ps_world.specs.Whole.{machines_in}
use Rattle.ps_world.specs.Worlds.{World_state}
use Rattle.ps_bench_watch.specs.Asking.{body_in, head_in, seen_of_run}
use Rattle.ps_bench_watch.specs.Prepared.{IsDumpBegun, IsPlayerOf, Plays, PlaysDump, layout_of, performer_of}
use Rattle.ps_bench_watch.specs.Showing.{Run}
use Rattle.ps_bench_waves.specs.declared.dumper.Dumper.{Dumper}
use Rattle.ps_bench_watch.specs.declared.player.Player.{Player}
use Rattle.ps_bench_watch.specs.declared.player.Player.TheVariants.{Lines, Changes}

-- a world at its beginning answers what the run answers
seen_same : (net : Network) (p : StruckWorld) (run : Run) → IsBeginning net p → p.world.setup ≡ run.setup →
    p.faults ≡ run.faults → (items : List Item) (ws : List State) →
    moments_of net nothing items (answered net p.faults 1 items p.world) ws ≡ seen_of_run net run items ws
seen_same net p run begins setup_is faults_are items ws =
    ap (λ (x : World_state). moments_of net nothing items
    (answers (machines_in p.world.setup) (length net.outputs) (instance_count net) p.faults 1 items x) ws)
    begins.world.beginning
    ∙ (λ i. moments_of net nothing items (answers_of_run net (machines_in (setup_is i)) items (faults_are i)) ws)

-- what is written in the layout of a format is what is written in the format
body_of : (net : Network) (format : Format) (names : List Name) (items : List Item) (ms : List Moment) →
    items_text net format names at_first items ms ≡ body_in net (layout_of format) names items ms
body_of net Text names items ms = refl
body_of net Csv names items ms = refl
body_of net Json names items ms = refl

-- so it is with what stands before it
pub head_of : (net : Network) (format : Format) (names : List Name) →
    head_text net format names ≡ head_in net (layout_of format) names
head_of net Text names = refl
head_of net Csv names = refl
head_of net Json names = refl

-- a run that writes lines
pub plays_lines : (net : Network) (player : Player) (runner : Runner (Watched StruckWorld) Watcher) →
    player ≡ Lines runner → (scans : Scans) (tells : Bool) (before after : List ℕ) (ended : Result (Unit {0}) Cut) →
    ((format : Format) (names : List Name) → IsBegun net format names runner.performer runner.taker →
    WritesWatched net format names runner.performer.performer scans tells before after ended) →
    (layout : Layout) (run : Run) → IsPlayerOf net layout run.names player →
    (performer_of player).performer.world.setup ≡ run.setup → (performer_of player).performer.faults ≡ run.faults →
    Plays net layout run scans tells before after ended
plays_lines net player runner is scans tells before after ended writes layout run of setup_is faults_are =
    let begun = subst (λ (p : Player). IsPlayerOf net layout run.names p) is of in
    let p = runner.performer.performer in
    let setup_same : p.world.setup ≡ run.setup = ap (λ (q : Player). (performer_of q).performer.world.setup) (sym is) ∙ setup_is in
    let faults_same : p.faults ≡ run.faults = ap (λ (q : Player). (performer_of q).performer.faults) (sym is) ∙ faults_are in
    let wrote = writes begun.0 run.names begun.2 in
    record {
      bytes = wrote.bytes;
      written = wrote.written;
      lines = λ ws means.
          subst (λ (text : List ℕ). WritesLines text scans.end wrote.bytes ended)
          (ap (items_text net begun.0 run.names at_first scans.items)
          (seen_same net p run begun.2.world setup_same faults_same scans.items ws)
          ∙ body_of net begun.0 run.names scans.items (seen_of_run net run scans.items ws)
          ∙ ap (λ (l : Layout). body_in net l run.names scans.items (seen_of_run net run scans.items ws)) (sym begun.1))
          (wrote.lines ws means);
    }

-- a run that writes value changes
pub plays_changes : (net : Network) (player : Player) (runner : Runner (Watched StruckWorld) Dumper) →
    player ≡ Changes runner → (scans : Scans) (tells : Bool) (before after : List ℕ) (ended : Result (Unit {0}) Cut) →
    ((names : List Name) → IsDumpBegun net names runner.performer runner.taker →
    PlaysDump net names runner.performer.performer scans tells before after ended) →
    (layout : Layout) (run : Run) → IsPlayerOf net layout run.names player →
    (performer_of player).performer.world.setup ≡ run.setup → (performer_of player).performer.faults ≡ run.faults →
    Plays net layout run scans tells before after ended
plays_changes net player runner is scans tells before after ended writes layout run of setup_is faults_are =
    let begun = subst (λ (p : Player). IsPlayerOf net layout run.names p) is of in
    let p = runner.performer.performer in
    let setup_same : p.world.setup ≡ run.setup = ap (λ (q : Player). (performer_of q).performer.world.setup) (sym is) ∙ setup_is in
    let faults_same : p.faults ≡ run.faults = ap (λ (q : Player). (performer_of q).performer.faults) (sym is) ∙ faults_are in
    let wrote = writes run.names begun.1 in
    record {
      bytes = wrote.bytes;
      written = wrote.written;
      lines = λ ws means.
          subst (λ (text : List ℕ). WritesLines text scans.end wrote.bytes ended)
          (ap (body_in net Vcd run.names scans.items)
          (seen_same net p run begun.1.world setup_same faults_same scans.items ws)
          ∙ ap (λ (l : Layout). body_in net l run.names scans.items (seen_of_run net run scans.items ws)) (sym begun.0))
          (wrote.lines ws means);
    }
