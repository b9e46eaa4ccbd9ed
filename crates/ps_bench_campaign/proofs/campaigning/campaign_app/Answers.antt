use Rattle.std.proofs.Common.{◌∙◌, IsTrue, ℕ, Any, List, [], ◌∷◌, Option, Err, refl, inl, inr, sym, ap, subst}
use Rattle.ps_bench_frame.specs.Meant.{file_meant}
use Rattle.ps_bench_frame.specs.Opening.{source}
use Rattle.ps_bench_frame.specs.declared.ending.Status.TheVariants.{Usage}
use Rattle.ps_outside.specs.Outside.{Rose}
use Rattle.ps_bench_trials.specs.Naming.{Names, digest_text}
use Rattle.ps_bench_messages.proofs.Remarked.{not_so, not_usage, so}
use Rattle.ps_bench_trace.proofs.Refused.{of_some}
use Rattle.ps_bench_trace.proofs.Remarked.{no_case, no_play, some_case}
use Rattle.ps_bench_trace.specs.Playing.{MeansPlay}
use Rattle.ps_bench_trace.specs.declared.playing.Play.{Play}
use Rattle.ps_bench_campaign.specs.Asking.{wanted_by}
use Rattle.ps_bench_campaign.specs.Leaving.{Stays, sides}
use Rattle.ps_bench_campaign.proofs.Coming.{means_since, moved}
use Rattle.ps_bench_campaign.proofs.Keeping.{of_none}
use Rattle.ps_bench_campaign.proofs.Leaving.{behind, done, no_memory, no_more, stopped, trace_rose}
use Rattle.ps_bench_campaign.proofs.campaigning.campaign_app.Goals as goal

pub campaign_play-requires : goal.campaign_play-requires
campaign_play-requires g c = record {
  accepted = c.requires.accepted;
  named = λ tells.
      let app = c.args.asked.now.app.now in
      let there : Names (g.F.Files.held c.args.files.now app) c.in-Ok.name = (
        c.args.opened.now.text,
        c.requires.text (subst IsTrue c.in-Ok-Some.ensures.reading tells),
        c.in-Ok.ensures ∙ ap digest_text c.as_slice.ensures,
      ) in
      subst (λ (held : List ℕ → Option (List ℕ)). Names (held app) c.in-Ok.name) (sym c.in-Ok-Some.ensures.kept) there;
  means =
      let net = c.args.opened.now.app in
      let sizes = c.args.opened.now.sizes in
      let word = c.args.asked.now.trace.now in
      let reading = g.F.Files.tells c.args.files.now in
      let held = g.F.Files.held c.args.files.now in
      let play = c.in-Ok-Some.play in (
        play.faults,
        means_since net sizes word play.cases play.faults reading _ held _ c.in-Ok-Some.ensures.reading c.in-Ok-Some.ensures.kept
            (of_some (λ (p : Play). MeansPlay (source net sizes reading held) word p.cases p.faults) c.in-Ok-Some.field-0 play
            c.in-Ok-Some.field-0-is c.in-Ok-Some.ensures.means),
      );
}

pub returns-in-Ok-Some : goal.returns-in-Ok-Some
returns-in-Ok-Some g c = record {
  answers = moved c.args.opened.now.app c.args.opened.now.sizes c.args.asked.now.app.now (wanted_by c.args.asked.now) _ _ _ _ _ _ _ _ _ c.campaign_play.result
      c.in-Ok-Some.ensures.reading c.in-Ok-Some.ensures.kept c.in-Ok-Some.ensures.telling c.in-Ok-Some.ensures.unsaid c.campaign_play.ensures.answers;
  leaves =
      let app = c.args.asked.now.app.now in
      let trace = file_meant c.args.asked.now.trace.now in
      let reads = g.F.Files.faults c.args.files.now in
      let mid = g.F.Files.faults c.open_play.new.files in
      let reads' = g.F.Files.faults c.campaign_play.new.files in
      let before = sides reads (g.O.Sink.tells c.args.out.now) (g.O.Sink.faults c.args.out.now) in
      let middle = sides mid (g.O.Sink.tells c.open_play.new.out) (g.O.Sink.faults c.open_play.new.out) in
      let after = sides reads' (g.O.Sink.tells c.campaign_play.new.out) (g.O.Sink.faults c.campaign_play.new.out) in
      let is = c.in-Ok-Some.ensures in
      let stays : Stays before middle = record { reads = is.reads; telling = is.telling; writes = is.writes } in
      behind before middle after c.campaign_play.result (Rose (mid trace) (reads' trace))
      (Any (λ (name : List ℕ). Rose (reads name) (reads' name)) (app ∷ trace ∷ [])) stays c.campaign_play.ensures.leaves
      (trace_rose reads mid reads' app trace (stays.reads trace));
  told = λ tells.
      not_so _ _ _ _ (not_usage c.campaign_play.result c.campaign_play.ensures.done)
      (some_case _ _ c.open_play.result _ c.in-Ok-Some.field-0 c.in-Ok-Some.play c.in-Ok-Some.is c.in-Ok-Some.field-0-is
      (c.open_play.ensures.told tells));
  listening = c.open_play.ensures.listening;
}

pub returns-in-Ok-None : goal.returns-in-Ok-None
returns-in-Ok-None g c = record {
  answers = inr (
    refl,
    of_none _ c.in-Ok-None.field-0 c.in-Ok-None.field-0-is c.in-Ok-None.ensures.none,
    λ tells. c.in-Ok-None.ensures.unsaid,
  );
  leaves =
      let reads = g.F.Files.faults c.args.files.now in
      let reads' = g.F.Files.faults c.open_play.new.files in
      let is = c.in-Ok-None.ensures in
      done (Any (λ (name : List ℕ). Rose (reads name) (reads' name)) (c.args.asked.now.app.now ∷ file_meant c.args.asked.now.trace.now ∷ []))
      (sides reads (g.O.Sink.tells c.args.out.now) (g.O.Sink.faults c.args.out.now))
      (sides reads' (g.O.Sink.tells c.open_play.new.out) (g.O.Sink.faults c.open_play.new.out)) Usage
      (record { reads = is.reads; telling = is.telling; writes = is.writes });
  told = λ tells.
      so _ _ _ _ refl (no_case _ _ c.open_play.result
      (source c.args.opened.now.app c.args.opened.now.sizes (g.F.Files.tells c.args.files.now) (g.F.Files.held c.args.files.now))
      c.args.asked.now.trace.now c.in-Ok-None.field-0 c.in-Ok-None.is c.in-Ok-None.field-0-is c.in-Ok-None.ensures.none
      (c.open_play.ensures.told tells));
  listening = c.open_play.ensures.listening;
}

pub returns : goal.returns
returns g c = record {
  answers = inl (inl c.in-Err-open_play.ensures.stops);
  leaves =
      let app = c.args.asked.now.app.now in
      let trace = file_meant c.args.asked.now.trace.now in
      let reads = g.F.Files.faults c.args.files.now in
      let reads' = g.F.Files.faults c.open_play.new.files in
      let is = c.in-Err-open_play.ensures in
      stopped (Any (λ (name : List ℕ). Rose (reads name) (reads' name)) (app ∷ trace ∷ []))
      (sides reads (g.O.Sink.tells c.args.out.now) (g.O.Sink.faults c.args.out.now))
      (sides reads' (g.O.Sink.tells c.open_play.new.out) (g.O.Sink.faults c.open_play.new.out)) c.in-Err-open_play.stop
      (record { reads = is.reads; telling = is.telling; writes = is.writes })
      (λ unread. trace_rose reads reads reads' app trace (no_more (reads trace)) (is.unread unread))
      (λ at. c.open_play.ensures.unwritten (c.in-Err-open_play.is ∙ ap Err at));
  told = λ tells.
      not_so _ _ _ _ (λ is. cc) (no_play _ _ c.open_play.result _ c.in-Err-open_play.stop c.in-Err-open_play.is (c.open_play.ensures.told tells));
  listening = c.open_play.ensures.listening;
}

pub returns-in-Err : goal.returns-in-Err
returns-in-Err g c = record {
  answers = inr (inr (refl, λ tells. refl));
  leaves =
      let reads = g.F.Files.faults c.args.files.now in
      let tells = g.O.Sink.tells c.args.out.now in
      let writes = g.O.Sink.faults c.args.out.now in
      no_memory (Any (λ (name : List ℕ). Rose (reads name) (reads name))
      (c.args.asked.now.app.now ∷ file_meant c.args.asked.now.trace.now ∷ [])) (sides reads tells writes) (sides reads tells writes)
      (record { reads = λ other. no_more (reads other); telling = refl; writes = no_more writes });
  told = λ tells. not_so _ _ _ _ (λ is. cc) refl;
  listening = refl;
}
