-- What a run of the lines of a stream comes to whose scans no fault strikes: told by report lines, and told by name.
use Rattle.std.specs.Prelude.{⊤}
use Rattle.std.proofs.Common.{◌≡◌, ◌∙◌, ◌++◌, [], ℕ, List, Bool, true, false, Result, Ok, Err, inl, refl, sym, ap, subst, append-nil, take}
use Rattle.ps_base.specs.declared.failing.Refusal.{Refusal}
use Rattle.ps_bench_watch.specs.Feeding.{IsBehind, IsHeadless, lines_left, waiting}
use Rattle.ps_bench_watch.specs.Streaming.{fed_lines}
use Rattle.ps_bench_watch.specs.declared.feed.Feed.{Feed}
use Rattle.ps_lines.specs.Lines.{Line, HasNoLineFeed}
use Rattle.ps_model.specs.declared.channel.Fault.{Fault}
use Rattle.ps_model.specs.declared.channel.Verdict.{Verdict}
use Rattle.ps_model.specs.Meaning.{Item, nothing}
use Rattle.ps_model.specs.Meaning.Item.{scan, restart}
use Rattle.ps_model.specs.Network.{Network}
use Rattle.ps_model.specs.Sound.{IsSound}
use Rattle.ps_model.proofs.Runs.{one_run}
use Rattle.ps_outside.specs.declared.text_fail.TextFail.{TextFail}
use Rattle.ps_outside.specs.declared.text_fail.TextFail.TheVariants.{Refused as NoHeader, Fault as NoRead, Memory as NoRoom}
use Rattle.ps_runs.specs.Doing.{Did, time_behind, all, refused, unread, refused_item, unwritten, next}
use Rattle.ps_runs.specs.Outcomes.{Outcome, refuses, outcome_line}
use Rattle.ps_runs.specs.Performing.{Performs}
use Rattle.ps_runs.specs.Resting.{answer_lines, answered, any_trips}
use Rattle.ps_runs.specs.Running.{IsBeginning}
use Rattle.ps_runs.specs.Watching.{Watches}
use Rattle.ps_runs.specs.Written.{WritesLines}
use Rattle.ps_runs.specs.declared.items.Cut.{Cut}
use Rattle.ps_runs.specs.declared.items.Cut.TheVariants.{Unread}
use Rattle.ps_runs.specs.declared.items.Runner.{Runner}
use Rattle.ps_report.specs.declared.buffer.LineBuffer.{LineBuffer}
use Rattle.ps_runs.specs.declared.striking.StruckWorld.{StruckWorld}
use Rattle.ps_runs.specs.declared.watching.Watched.{Watched}
use Rattle.ps_runs.proofs.Standing.{runs_to}
use Rattle.ps_bench_waves.specs.Names.{main_names}
use Rattle.ps_bench_waves.specs.declared.format.Format.TheVariants.{Text}
use Rattle.ps_trace.specs.Scans.{Scans}
use Rattle.ps_bench_waves.specs.Watched.{IsBegun}
use Rattle.ps_bench_waves.specs.Watcher.{watcher_said, watcher_takes}
use Rattle.ps_bench_waves.specs.Watching.{watch_text}
use Rattle.ps_bench_waves.specs.declared.watcher.Watcher.{Watcher}
use Rattle.ps_bench_waves.proofs.Running.{watched_run}
use Rattle.ps_bench_watch.specs.Answering.{AnswersLines}
use Rattle.ps_bench_watch.specs.Leaving.{headless_by, ran_by}
use Rattle.ps_bench_watch.specs.Living.{RunsStream, stop_by}
use Rattle.ps_bench_watch.specs.Telling.{IsUntold, is_by_name}
use Rattle.ps_bench_watch.specs.declared.living.LiveStop as live
use Rattle.ps_bench_watch.specs.declared.teller.Teller.{Teller}
use Rattle.ps_bench_watch.specs.declared.teller.Teller.TheVariants.{Lines, Names}
use Rattle.ps_bench_watch.proofs.Ran.{ComesTo, cut_run, ended_run, headless_run}

-- a world refuses no item
pub none_refused : (net : Network) (p : StruckWorld) (item : Item) (after : StruckWorld) (refusal : Refusal) → Performs net p item (refuses refusal) after → ⊥
none_refused net p (scan now ins) after refusal performs = let compares = performs.compares in cc
none_refused net p restart after refusal performs = let is = performs.0 in cc

-- nor does it with the evaluator beside it
pub none_refused_beside : (net : Network) (p : Watched StruckWorld) (item : Item) (after : Watched StruckWorld) (refusal : Refusal) →
    Watches Performs net p item (refuses refusal) after → ⊥
none_refused_beside net p item after refusal watches = none_refused net p.performer item after.performer refusal watches.done

-- a run that is told by report lines
pub lines_come : {T : Type 0} (net : Network) (p after : StruckWorld) (t t' : T) (first : IsBeginning net p) → p.faults ≡ [] →
    (time : ℕ) (scans : Scans) (bytes : List ℕ) (ended : Result (Unit {0}) Cut) →
    Did (Performs net) (λ u q outcome. outcome_line net outcome) (λ u q outcome u'. ⊤) time p t scans bytes ended after t' →
    ComesTo false net p.world first.world after.tripped scans bytes ended
lines_come net p after t t' first spared time scans bytes ended did =
    let to = runs_to net (λ u outcome u'. ⊤) time p after t t' scans bytes ended first did in
    record {
      text = answer_lines net scans.items (answered net [] 1 scans.items p.world);
      says = refl;
      written = subst (λ (fs : List Fault). WritesLines (answer_lines net scans.items (answered net fs 1 scans.items p.world)) scans.end bytes ended)
          spared to.written;
      tripped = λ end. to.tripped end ∙ ap (λ (fs : List Fault). any_trips (answered net fs 1 scans.items p.world)) spared;
    }

-- What was done with the evaluator beside a world the world does alone, with lines of its own.
module _ (net : Network) {T : Type 0} (said : T → Watched StruckWorld → Outcome Verdict → List ℕ) (takes : T → Watched StruckWorld → Outcome Verdict → T → Type 0) where
  abbrev DidAlone : ℕ → StruckWorld → Scans → List ℕ → Result (Unit {0}) Cut → StruckWorld → Type 0
  DidAlone time p scans bytes ended after =
      Did (Performs net) (λ (u : Unit {0}) q outcome. outcome_line net outcome) (λ u q outcome u'. ⊤) time p tt scans bytes ended after tt

  alone : (time : ℕ) (p : Watched StruckWorld) (t : T) (scans : Scans) (bytes : List ℕ) (ended : Result (Unit {0}) Cut) (after : Watched StruckWorld) (t' : T) →
      Did (Watches Performs net) said takes time p t scans bytes ended after t' → (lines : List ℕ) × DidAlone time p.performer scans lines ended after.performer
  alone _ _ _ _ _ _ _ _ (all time p t scans is) = ([], all time p.performer tt scans is)
  alone _ _ _ _ _ _ _ _ (refused time p t scans refusal is) = ([], refused time p.performer tt scans refusal is)
  alone _ _ _ _ _ _ _ _ (unread time p t scans) = ([], unread time p.performer tt scans)
  alone _ _ _ _ _ _ _ _ (refused_item time p t scans item rest refusal p' begins is_due watches) =
      ([], refused_item time p.performer tt scans item rest refusal p'.performer begins is_due watches.done)
  alone _ _ _ _ _ _ _ _ (unwritten time p t scans item rest outcome p' t' n begins is_due watches) =
      (take n (outcome_line net outcome), unwritten time p.performer tt scans item rest outcome p'.performer tt n begins is_due watches.done)
  alone _ _ _ _ _ _ _ _ (next time p t scans item rest outcome p' t' bytes ended p'' t'' begins is_due watches takes_it did) =
      let more = alone (time_behind time item) p' t' rest bytes ended p'' t'' did in
      (outcome_line net outcome ++ more.0, next time p.performer tt scans item rest outcome p'.performer tt more.0 ended p''.performer tt begins is_due watches.done tt more.1)

-- a run that is told by name
pub names_come : (net : Network) → IsSound net → (p after : Watched StruckWorld) (w w' : Watcher) (begun : IsBegun net Text (main_names net) p w) →
    p.performer.faults ≡ [] → (time : ℕ) (scans : Scans) (bytes : List ℕ) (ended : Result (Unit {0}) Cut) →
    Did (Watches Performs net) (watcher_said net) (watcher_takes net) time p w scans bytes ended after w' →
    ComesTo true net p.performer.world begun.world.world after.performer.tripped scans bytes ended
names_come net sound p after w w' begun spared time scans bytes ended did =
    let means = one_run net sound nothing scans.items in
    let lone = alone net (watcher_said net) (watcher_takes net) time p w scans bytes ended after w' did in
    let to = runs_to net (λ u outcome u'. ⊤) time p.performer after.performer tt tt scans lone.0 ended begun.world lone.1 in
    record {
      text = watch_text net Text (main_names net) scans.items (answered net [] 1 scans.items p.performer.world) means.0;
      says = (means.0, means.1, refl);
      written = subst (λ (fs : List Fault). WritesLines (watch_text net Text (main_names net) scans.items (answered net fs 1 scans.items p.performer.world) means.0) scans.end bytes ended)
          spared (watched_run net sound Text (main_names net) time p w scans bytes ended after w' begun did means.0 means.1);
      tripped = λ end. to.tripped end ∙ ap (λ (fs : List Fault). any_trips (answered net fs 1 scans.items p.performer.world)) spared;
    }

-- a stream of which no feed came, whoever tells of it
pub headless_told : (net : Network) (teller : Teller) → IsUntold net teller → (bytes : List ℕ) (of : TextFail) (tells : Bool) (before after : List ℕ) →
    ((refusal : Refusal) → of ≡ NoHeader refusal → IsHeadless net (fed_lines bytes) refusal) → after ≡ before → (coming : List ℕ) →
    RunsStream (is_by_name teller) net bytes coming tells before after (Err (headless_by of))
headless_told net (Lines runner) first bytes (NoHeader refusal) tells before after none same coming =
    headless_run false net runner.performer.world first.0.world bytes refusal tells before after (none refusal refl) same coming
headless_told net (Names runner) begun bytes (NoHeader refusal) tells before after none same coming =
    headless_run true net runner.performer.performer.world begun.0.world.world bytes refusal tells before after (none refusal refl) same coming
headless_told net teller untold bytes NoRead tells before after none same coming = inl (λ on. same ∙ sym (append-nil before))
headless_told net teller untold bytes NoRoom tells before after none same coming = λ on. same ∙ sym (append-nil before)

module _ (net : Network) (bytes : List ℕ) (feed : Feed) (lines : List Line) (behind : IsBehind net (fed_lines bytes) feed lines) where
  -- the lines of a stream that are told by report lines
  module _ {T : Type 0} (p p' : StruckWorld) (t t' : T) (first : IsBeginning net p) (spared : p.faults ≡ []) where
    -- what was done of them
    abbrev AnswersAsLines : List Line → Bool → (before after : List ℕ) → Result (Unit {0}) Cut → Type 0
    AnswersAsLines rest tells before after ended =
        AnswersLines (Performs net) (λ u q outcome. outcome_line net outcome) (λ u q outcome u'. ⊤) feed p p' t t' lines rest tells before after ended

    -- up to the end of the stream
    lines_ended : (rest : List Line) (tells : Bool) (before after coming : List ℕ) (x : Unit {0}) → AnswersAsLines rest tells before after (Ok x) →
        RunsStream false net bytes coming tells before after (Ok p'.tripped)
    lines_ended = ended_run false net p.world first.world (Performs net) (λ u q outcome. outcome_line net outcome) (λ u q outcome u'. ⊤)
        bytes feed lines behind p p' t t' p'.tripped (lines_come net p p' t t' first spared feed.last) (none_refused net)

    -- up to what cut them short
    lines_cut : (feed' : Feed) (coming : List ℕ) (cut : Cut) (tells : Bool) (before after : List ℕ) →
        AnswersAsLines (lines_left feed' coming) tells before after (Err cut) → (cut ≡ Unread → HasNoLineFeed (waiting feed')) →
        RunsStream false net bytes coming tells before after (Err (stop_by cut))
    lines_cut = cut_run false net p.world first.world (Performs net) (λ u q outcome. outcome_line net outcome) (λ u q outcome u'. ⊤)
        bytes feed lines behind p p' t t' p'.tripped (lines_come net p p' t t' first spared feed.last) (none_refused net)

    -- however they ended
    lines_ran : (feed' : Feed) (coming : List ℕ) (ended : Result (Unit {0}) Cut) (tells : Bool) (before after : List ℕ) →
        AnswersAsLines (lines_left feed' coming) tells before after ended → (ended ≡ Err Unread → HasNoLineFeed (waiting feed')) →
        RunsStream false net bytes coming tells before after (ran_by p'.tripped ended)
    lines_ran feed' coming (Ok x) tells before after answers all_came = lines_ended (lines_left feed' coming) tells before after coming x answers
    lines_ran feed' coming (Err cut) tells before after answers all_came =
        lines_cut feed' coming cut tells before after answers (λ is. all_came (ap Err is))

  -- the same, as the run of whoever tells of them
  pub lines_told : (teller : Teller) (runner : Runner StruckWorld LineBuffer) → teller ≡ Lines runner → IsUntold net (Lines runner) →
      (p' : StruckWorld) (t' : LineBuffer) (feed' : Feed) (coming : List ℕ) (ended : Result (Unit {0}) Cut) (tells : Bool) (before after : List ℕ)
      (ran : Result Bool live.LiveStop) → ran ≡ ran_by p'.tripped ended →
      AnswersLines (Performs net) (λ (u : LineBuffer) q outcome. outcome_line net outcome) (λ u q outcome u'. ⊤) feed runner.performer p' runner.taker t' lines
      (lines_left feed' coming) tells before after ended → (ended ≡ Err Unread → HasNoLineFeed (waiting feed')) →
      RunsStream (is_by_name teller) net bytes coming tells before after ran
  lines_told teller runner is untold p' t' feed' coming ended tells before after ran by answers all_came =
      subst (λ (r : Result Bool live.LiveStop). RunsStream (is_by_name teller) net bytes coming tells before after r) (sym by)
      (subst (λ (t : Teller). RunsStream (is_by_name t) net bytes coming tells before after (ran_by p'.tripped ended)) (sym is)
      (lines_ran runner.performer p' runner.taker t' untold.0 untold.1 feed' coming ended tells before after answers all_came))

  -- the lines of a stream that are told by name
  module _ (sound : IsSound net) (p p' : Watched StruckWorld) (w w' : Watcher) (begun : IsBegun net Text (main_names net) p w) (spared : p.performer.faults ≡ []) where
    -- what was done of them
    abbrev AnswersAsNames : List Line → Bool → (before after : List ℕ) → Result (Unit {0}) Cut → Type 0
    AnswersAsNames rest tells before after ended =
        AnswersLines (Watches Performs net) (watcher_said net) (watcher_takes net) feed p p' w w' lines rest tells before after ended

    -- up to the end of the stream
    names_ended : (rest : List Line) (tells : Bool) (before after coming : List ℕ) (x : Unit {0}) → AnswersAsNames rest tells before after (Ok x) →
        RunsStream true net bytes coming tells before after (Ok p'.performer.tripped)
    names_ended = ended_run true net p.performer.world begun.world.world (Watches Performs net) (watcher_said net) (watcher_takes net)
        bytes feed lines behind p p' w w' p'.performer.tripped (names_come net sound p p' w w' begun spared feed.last) (none_refused_beside net)

    -- up to what cut them short
    names_cut : (feed' : Feed) (coming : List ℕ) (cut : Cut) (tells : Bool) (before after : List ℕ) →
        AnswersAsNames (lines_left feed' coming) tells before after (Err cut) → (cut ≡ Unread → HasNoLineFeed (waiting feed')) →
        RunsStream true net bytes coming tells before after (Err (stop_by cut))
    names_cut = cut_run true net p.performer.world begun.world.world (Watches Performs net) (watcher_said net) (watcher_takes net)
        bytes feed lines behind p p' w w' p'.performer.tripped (names_come net sound p p' w w' begun spared feed.last) (none_refused_beside net)

    -- however they ended
    names_ran : (feed' : Feed) (coming : List ℕ) (ended : Result (Unit {0}) Cut) (tells : Bool) (before after : List ℕ) →
        AnswersAsNames (lines_left feed' coming) tells before after ended → (ended ≡ Err Unread → HasNoLineFeed (waiting feed')) →
        RunsStream true net bytes coming tells before after (ran_by p'.performer.tripped ended)
    names_ran feed' coming (Ok x) tells before after answers all_came = names_ended (lines_left feed' coming) tells before after coming x answers
    names_ran feed' coming (Err cut) tells before after answers all_came =
        names_cut feed' coming cut tells before after answers (λ is. all_came (ap Err is))

  -- the same, as the run of whoever tells of them
  pub names_told : (teller : Teller) (runner : Runner (Watched StruckWorld) Watcher) → teller ≡ Names runner → IsUntold net (Names runner) → IsSound net →
      (p' : Watched StruckWorld) (w' : Watcher) (feed' : Feed) (coming : List ℕ) (ended : Result (Unit {0}) Cut) (tells : Bool) (before after : List ℕ)
      (ran : Result Bool live.LiveStop) → ran ≡ ran_by p'.performer.tripped ended →
      AnswersLines (Watches Performs net) (watcher_said net) (watcher_takes net) feed runner.performer p' runner.taker w' lines
      (lines_left feed' coming) tells before after ended → (ended ≡ Err Unread → HasNoLineFeed (waiting feed')) →
      RunsStream (is_by_name teller) net bytes coming tells before after ran
  names_told teller runner is untold sound p' w' feed' coming ended tells before after ran by answers all_came =
      subst (λ (r : Result Bool live.LiveStop). RunsStream (is_by_name teller) net bytes coming tells before after r) (sym by)
      (subst (λ (t : Teller). RunsStream (is_by_name t) net bytes coming tells before after (ran_by p'.performer.tripped ended)) (sym is)
      (names_ran sound runner.performer p' runner.taker w' untold.0 untold.1 feed' coming ended tells before after answers all_came))

-- what is said of a run to an output that is handed on before it
pub moved : (net : Network) (bytes coming : List ℕ) (by_name by_name' : Bool) (tells tells' : Bool) (before before' after : List ℕ) (ended : Result Bool live.LiveStop) →
    by_name ≡ by_name' → tells ≡ tells' → before ≡ before' →
    RunsStream by_name net bytes coming tells before after ended → RunsStream by_name' net bytes coming tells' before' after ended
moved net bytes coming by_name by_name' tells tells' before before' after ended same telling kept runs =
    subst (λ (b : Bool). RunsStream b net bytes coming tells' before' after ended) same
    (subst (λ (t : Bool). RunsStream by_name net bytes coming t before' after ended) telling
    (subst (λ (b : List ℕ). RunsStream by_name net bytes coming tells b after ended) kept runs))
