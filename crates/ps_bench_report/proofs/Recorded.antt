-- What a recorder knows of a run, scan by scan.
use Rattle.std.proofs.Common.{◌≡◌, ◌≤◌, ◌∙◌, ◌+◌, ◌++◌, ℕ, suc, Bool, true, false, List, [], ◌∷◌, Result, Ok, Err, length, map, sym, ap, subst, arith}
use Rattle.std.specs.Prelude.{OnOk, min}
use Rattle.std.proofs.lemmas.List.{length-append, length-map, map-append}
use Rattle.ps_model.specs.declared.channel.Verdict.{Verdict}
use Rattle.ps_model.specs.Meaning.{Runs, nothing}
use Rattle.ps_model.specs.Network.{Network}
use Rattle.ps_model.specs.Scanning.{State}
use Rattle.ps_model.specs.Sound.{IsSound}
use Rattle.ps_bench_report.proofs.Films.{film_begins, film_goes}
use Rattle.ps_bench_report.proofs.Seeing.{known}
use Rattle.ps_bench_report.specs.Recorder.{TakesRestart, TakesScan, next_frame, recorder_takes, seen_behind}
use Rattle.ps_bench_report.specs.Taking.{cover_takes}
use Rattle.ps_bench_report.specs.Recording.{Film, IsFilmOf, Made, Shot, film_of, shot_of}
use Rattle.ps_bench_report.specs.Filmed.{HasRecorded, IsBegun, made_of}
use Rattle.ps_bench_report.specs.declared.filming.Both.{Both}
use Rattle.ps_bench_report.specs.declared.recording.Recorder.{Recorder}
use Rattle.ps_runs.proofs.ToCome.{first_stands}
use Rattle.ps_runs.specs.Doing.{Did}
use Rattle.ps_runs.specs.Outcomes.{Outcome}
use Rattle.ps_runs.specs.Performing.{Performs}
use Rattle.ps_runs.specs.Watching.{Watches}
use Rattle.ps_runs.specs.declared.items.Cut.{Cut}
use Rattle.ps_runs.specs.declared.striking.StruckWorld.{StruckWorld}
use Rattle.ps_runs.specs.declared.watching.Watched.{Watched}
use Rattle.ps_bench_judge.specs.Moments.{Moment as Sight}
use Rattle.ps_bench_names.specs.declared.name.Name.{Name}
use Rattle.ps_trace.specs.Scans.{Scans}

module _ (net : Network) (names : List Name) where
  -- a recorder has these scans, and knows whether the next one is the first after a restart
  record Has (made : List Made) (r : Bool) (w : Recorder) : Type 0 where
    scans : w.scans ≡ length made
    restarted : w.restarted ≡ r
    film : IsFilmOf names (map (shot_of net names) made) (film_of w.recording)

  abbrev Knows : List Made → Bool → Recorder → Type 0
  Knows made r w = w.is_wanting ≡ false → length made ≤ 4294967295 → Has made r w

  has_scan : (made : List Made) (r : Bool) (w : Recorder) (s : Sight) (w' : Recorder) → TakesScan net w s w' → w'.is_wanting ≡ false →
      length (made ++ record { sight = s; restarted = r } ∷ []) ≤ 4294967295 → Has made r w → Has (made ++ record { sight = s; restarted = r } ∷ []) false w'
  has_scan made r w s w' takes fine few old =
      let this : Made = record { sight = s; restarted = r } in
      let longer : length (made ++ this ∷ []) ≡ length made + 1 = length-append made (this ∷ []) in
      let number : w'.scans ≡ length made + 1 = takes.scans ∙ ap (λ n. min (n + 1) 4294967295) old.scans ∙ omega arith in
      let counted : (next_frame net w s).scan ≡ suc (length (map (shot_of net names) made)) =
      ap (λ n. min (n + 1) 4294967295) old.scans ∙ omega (arith, length-map made (shot_of net names)) in
      let shot_is : (next_frame net w s).shot ≡ shot_of net names this =
      λ i. shot_of net (old.film.named i) (record { sight = s; restarted = old.restarted i }) in
      record {
        scans = number ∙ sym longer;
        restarted = takes.restarted;
        film = subst (λ (shots : List Shot). IsFilmOf names shots (film_of w'.recording)) (sym (map-append (shot_of net names) made (this ∷ [])))
            (film_goes names (map (shot_of net names) made) (shot_of net names this) (film_of w.recording) old.film (next_frame net w s) counted shot_is
            (film_of w'.recording) (takes.shows fine));
      }

  knows_scan : (made : List Made) (r : Bool) (w : Recorder) (s : Sight) (w' : Recorder) → Knows made r w → TakesScan net w s w' →
      Knows (made ++ record { sight = s; restarted = r } ∷ []) false w'
  knows_scan made r w s w' knows takes = λ fine few.
      let longer = length-append made (record { sight = s; restarted = r } ∷ []) in
      has_scan made r w s w' takes fine few (knows (takes.wanting fine) (omega arith))

  knows_anew : (made : List Made) (r : Bool) (w : Recorder) (w' : Recorder) → Knows made r w → TakesRestart w w' → Knows made true w'
  knows_anew made r w w' knows takes = λ fine few.
      let old = knows (sym takes.wanting ∙ fine) few in
      record {
        scans = takes.scans ∙ old.scans;
        restarted = takes.restarted;
        film = subst (λ (film : Film). IsFilmOf names (map (shot_of net names) made) film) (sym takes.same) old.film;
      }

  -- what a recorder makes of an outcome, beside another that takes it
  abbrev pub Takes : Both → Watched StruckWorld → Outcome Verdict → Both → Type 0
  Takes w p outcome w' = recorder_takes net w.recorder p outcome w'.recorder × cover_takes net w.cover p outcome w'.cover

  -- A run from its beginning was recorded.
  pub recorded : IsSound net → (said : Both → Watched StruckWorld → Outcome Verdict → List ℕ) (time : ℕ) (p : Watched StruckWorld)
      (w : Both) (scans : Scans) (bytes : List ℕ) (ended : Result (Unit {0}) Cut) (after : Watched StruckWorld) (w' : Both) →
      IsBegun net names p w.recorder → Did (Watches Performs net) said Takes time p w scans bytes ended after w' →
      (ws : List State) → Runs net nothing scans.items ws → OnOk ended (HasRecorded net names (made_of net p.performer scans.items ws) w'.recorder)
  recorded sound said time p w scans bytes ended after w' begun did ws means =
      by ended (known net sound p.performer.faults said Takes (λ made r w. Knows made r w.recorder)
      (λ made r w p now v report w' knows takes. knows_scan made r w.recorder (seen_behind p now v report) w'.recorder knows takes.0)
      (λ made r w p w' knows takes. knows_anew made r w.recorder w'.recorder knows takes.0)
      time 0 p w scans bytes ended after w' nothing [] false ws
      (first_stands net p.performer begun.world) begun.evaluator (omega arith) means
      (λ fine few. record { scans = begun.fresh.none_made; restarted = begun.fresh.not_restarted; film = film_begins names (film_of w.recorder.recording) begun.fresh.film })
      did)
    where
      by : (e : Result (Unit {0}) Cut) → OnOk e ((r : Bool) × Knows (made_of net p.performer scans.items ws) r w'.recorder) →
          OnOk e (HasRecorded net names (made_of net p.performer scans.items ws) w'.recorder)
      by (Ok done) all_ = λ fine few. (all_.1 fine few).film
      by (Err cut) all_ = tt
