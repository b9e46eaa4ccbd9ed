use Rattle.std.proofs.Common.{◌≡◌, ◌∙◌, Err, refl, sym, ap, subst}
use Rattle.std.specs.Prelude.{OnOk}
use Rattle.ps_model.specs.Meaning.{nothing}
use Rattle.ps_bench_cover.proofs.Begun.{begun_unseen, begun_whole}
use Rattle.ps_bench_report.proofs.Played.{ends_whole, keeps_items}
use Rattle.ps_cover.specs.Applying.{scans_of}
use Rattle.ps_cover.specs.Covers.{IsAt, Knows}
use Rattle.ps_cover.specs.declared.cover.Cover.{Cover}
use Rattle.ps_bench_report.specs.Recorder.{IsFresh}
use Rattle.ps_bench_report.specs.declared.filming.Both.{Both}
use Rattle.ps_bench_report.specs.Filmed.{HasRecorded, IsBegun, made_of}
use Rattle.ps_runs.specs.Cutting.{TellsFailures}
use Rattle.ps_runs.specs.Running.{IsBeginning}
use Rattle.ps_runs.specs.Watching.{StandsAt}
use Rattle.ps_runs.specs.declared.striking.StruckWorld.{StruckWorld}
use Rattle.ps_runs.specs.declared.watching.Watched.{Watched}
use Rattle.ps_trace.specs.Reading.{file_of, items_left}
use Rattle.ps_bench_report.proofs.playing.record_trace.Goals as goal

pub new-requires : goal.new-requires
new-requires c = c.new-world.ensures.fits c.args.app.now c.in_ok-build.ensures

pub returns-in-Ok : goal.returns-in-Ok
returns-in-Ok c = record {
  records = λ reading whole names fresh.
      let net = c.args.app.now in
      let text = c.args.text.now in
      let items = (items_left c.args.trace.now text).items in
      let ran = c.in_ok-runner.runner in
      let performer_is : ran.performer ≡ c.in_ok-performer.performer = c.in_ok-runner.ensures.performer in
      let world_is : ran.performer.performer ≡ c.new-world.result =
      ap (λ (w : Watched StruckWorld). w.performer) performer_is ∙ c.in_ok-performer.ensures.performer in
      let begins : IsBeginning net ran.performer.performer =
      subst (IsBeginning net) (sym world_is) (c.new-world.ensures.begins net c.in_ok-build.ensures) in
      let faults_are : ran.performer.performer.faults ≡ c.args.faults =
      ap (λ (w : StruckWorld). w.faults) world_is ∙ c.new-world.ensures.faults in
      let begun : IsBegun net names ran.performer ran.taker.recorder = record {
        world = begins;
        evaluator = subst (λ (w : Watched StruckWorld). StandsAt net nothing w.evaluator) (sym performer_is) c.in_ok-performer.ensures.first;
        fresh = subst (IsFresh names) (sym (ap (λ (b : Both). b.recorder) c.in_ok-runner.ensures.taker)) fresh;
      } in
      let cover = c.in_ok-cover.cover in
      let is = c.in_ok-cover.ensures in
      let cover_is : ran.taker.cover ≡ cover = ap (λ (b : Both). b.cover) c.in_ok-runner.ensures.taker in
      keeps_items net names items c.args.faults ran.performer.performer c.record_items.new.runner.taker.recorder c.finished.result begins faults_are
      (λ ws means.
      subst (λ r. OnOk r (HasRecorded net names (made_of net ran.performer.performer items ws) c.record_items.new.runner.taker.recorder)) c.in-Ok.is
      (c.record_items.ensures.records refl text refl reading names begun ws means))
      c.finished.ensures.wanting c.finished.ensures.film c.record_items.new.runner.taker.cover c.finished.ensures.cover
      (λ ws means.
      record {
        begun = cover;
        whole = begun_whole net cover is.points is.none_off is.none_on;
        unseen = begun_unseen net cover is.points is.none_off is.none_on;
        knows = subst (λ (t : Cover). Knows net (scans_of net nothing items ws) t c.record_items.new.runner.taker.cover) cover_is
            (subst (λ r. OnOk r (Knows net (scans_of net nothing items ws) ran.taker.cover c.record_items.new.runner.taker.cover)) c.in-Ok.is
            (c.record_items.ensures.covers refl text refl reading begun.evaluator (subst (IsAt net nothing) (sym cover_is) is.first) ws means));
      });
}

pub returns : goal.returns
returns c = record {
  records = λ reading whole names fresh.
      let file = file_of c.args.trace.now in
      let text = c.args.text.now in
      absurd (ends_whole file (items_left c.args.trace.now text).end c.in-Err.field-0
      (subst (TellsFailures file (λ _. 0) (λ _. 0) 0 0) c.in-Err.is c.record_items.ensures.failures)
      (λ refusal is. c.record_items.ensures.refuses refl text refl reading refusal (c.in-Err.is ∙ ap Err is)) whole);
}
