use Rattle.std.proofs.Common.{◌∙◌, Contains, List, Option, ap, inl, inr, map, refl, subst, sym}
use Rattle.std.proofs.lemmas.Result.{IfOk-weaker}
use Rattle.ps_base.specs.declared.failing.Place.{Place}
use Rattle.ps_bench_why.specs.Moments.{Moment}
use Rattle.ps_model.specs.Meaning.{old_state, passed}
use Rattle.ps_bench_why.specs.declared.walker.Since.{Since}
use Rattle.ps_why.specs.declared.scene.Scene.{Scene}
use Rattle.ps_why.specs.declared.fact.Fact.{Fact}
use Rattle.ps_bench_why.specs.Reasoned.{ArePlacesOf}
use Rattle.ps_bench_why.proofs.Reasons.{asked_for, moment_of_scan, of_question, scene_for, scene_of}
use Rattle.ps_bench_why.proofs.reasoning.reasoned.Goals as goal

pub answer-requires-clause-fits : goal.answer-requires-clause-fits
answer-requires-clause-fits c =
    let x : Scene = record {
      signals = record { before = c.signals_before.result; behind = c.signals_behind.result };
      calls = c.as_slice.result;
    } in
    scene_for c.args.app.now c.args.walker.now x c.signals_before.ensures c.signals_behind.ensures
    (c.as_slice.ensures.value ∙ c.in_ok-calls.ensures) c.requires.fits

pub returns : goal.returns
returns c =
    let net = c.args.app.now in
    let walker = c.args.walker.now in
    let x : Scene = record {
      signals = record { before = c.signals_before.result; behind = c.signals_behind.result };
      calls = c.as_slice.result;
    } in
    let e = c.in_ok-explanation.explanation in
    let m : Moment = record {
      net = net;
      now = c.args.times.now;
      before = c.args.times.before;
      since_before = c.as_slice-3.result.now;
      since = c.as_slice-4.result.now;
      calls = x.calls.now;
    } in
    let fits = scene_for net walker x c.signals_before.ensures c.signals_behind.ensures
    (c.as_slice.ensures.value ∙ c.in_ok-calls.ensures) c.requires.fits in
    let places = c.as_slice-5.result.now in
    let placed : ArePlacesOf net c.args.source.now e.facts.items places =
    subst (λ (fs : List Fact). ArePlacesOf net c.args.source.now fs places) c.as_slice-2.ensures.value
    (subst (λ (ps : List (Option Place)). ArePlacesOf net c.args.source.now c.as_slice-2.result.now ps) (sym c.as_slice-5.ensures.value)
    c.in_ok-places.ensures) in
    IfOk-weaker c.because.result _ _
    (λ text told s look last.
    let scene = scene_of net walker x c.signals_before.ensures c.signals_behind.ensures (c.as_slice.ensures.value ∙ c.in_ok-calls.ensures) s look in
    let so = c.in_ok-explanation.ensures.meant (old_state net s.past) s.ins (passed s.past s.now) s.new look.solves scene in
    record {
      moment = m;
      explanation = e;
      places = places;
      asked = asked_for net x c.args.question (Contains e.facts.items) c.in_ok-explanation.ensures.answers;
      used = λ n fact at. elim (c.in_ok-explanation.ensures.used n fact at) [
        | inl asked ↦ inl (of_question net x c.args.question fact asked)
        | inr reason ↦ inr reason
      ];
      meant = so;
      enough = c.whatever_the_inputs.ensures e.facts.items so.explained (old_state net s.past) (passed s.past s.now) s.new
          (λ fact within leaf. so.so fact within);
      of = moment_of_scan net walker s c.args.times m c.requires.fits look last refl refl refl
          (c.as_slice-3.ensures.value ∙ c.in_ok-before.ensures ∙ ap (map (λ (s : Since). s.before)) c.since.ensures)
          (c.as_slice-4.ensures.value ∙ c.in_ok-behind.ensures ∙ ap (map (λ (s : Since). s.behind)) c.since-2.ensures)
          fits.each scene.calls;
      scene = x;
      fits = fits;
      seen = scene;
      reasons = c.in_ok-explanation.ensures.reasons;
      placed = placed;
      told = told;
    }) c.because.ensures
