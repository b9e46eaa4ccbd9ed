use Rattle.std.proofs.Common.{◌≡◌, ◌∙◌, [], ◌∷◌, ℕ, IsTrue, List, Option, Some, Ok, Err, ap, inl, refl, subst, sym}
use Rattle.ps_bench_frame.proofs.Stopped.{rose_since}
use Rattle.ps_bench_frame.specs.Meant.{file_meant}
use Rattle.ps_bench_frame.specs.declared.ending.Stop.TheVariants.{Unwritten}
use Rattle.ps_bench_frame.specs.declared.ending.Status.TheVariants.{Usage}
use Rattle.ps_bench_messages.proofs.Remarked.{not_so, of_app}
use Rattle.ps_bench_trace.specs.Remarking.{TellsNoCase}
use Rattle.ps_edge.specs.Hearing.{listener_seen}
use Rattle.ps_bench_campaign.specs.Asking.{wanted_by}
use Rattle.ps_bench_campaign.proofs.Coming.{answered, any_since, moved, stops}
use Rattle.ps_bench_campaign.proofs.Leaving.{app_rose, le_two, of_err}
use Rattle.ps_bench_campaign.proofs.campaigning.campaign.Goals as goal

pub campaign_app-requires : goal.campaign_app-requires
campaign_app-requires g c = record {
  accepted = c.in-Ok.ensures.accepted;
  text = λ tells.
      subst (λ (held : List ℕ → Option (List ℕ)). held c.args.asked.now.app.now ≡ Some c.in-Ok.opened.text) (sym c.in-Ok.ensures.kept)
      (c.in-Ok.ensures.text (subst IsTrue c.in-Ok.ensures.reading tells));
}

pub returns-in-Ok : goal.returns-in-Ok
returns-in-Ok g c = record {
  answers =
      let app = c.args.asked.now.app.now in
      let wanted = wanted_by c.args.asked.now in
      answered c.in-Ok.opened.app c.in-Ok.opened.sizes app wanted
      (g.F.Files.tells c.args.files.now) (g.F.Files.held c.args.files.now) (g.O.Sink.tells c.args.out.now)
      (g.O.Sink.taken c.args.out.now) (g.O.Sink.taken c.campaign_app.new.out) c.campaign_app.result c.in-Ok.ensures.app
      (moved c.in-Ok.opened.app c.in-Ok.opened.sizes app wanted _ _ _ _ _ _ _ _ _ c.campaign_app.result
      c.in-Ok.ensures.reading c.in-Ok.ensures.kept c.in-Ok.ensures.telling c.in-Ok.ensures.unsaid c.campaign_app.ensures.answers);
  stops =
      let app = c.args.asked.now.app.now in
      let wanted = wanted_by c.args.asked.now in
      stops c.in-Ok.opened.app c.in-Ok.opened.sizes app wanted
      (g.F.Files.tells c.args.files.now) (g.F.Files.held c.args.files.now) (g.O.Sink.tells c.args.out.now)
      (g.O.Sink.taken c.args.out.now) (g.O.Sink.taken c.campaign_app.new.out) c.campaign_app.result c.in-Ok.ensures.app
      (moved c.in-Ok.opened.app c.in-Ok.opened.sizes app wanted _ _ _ _ _ _ _ _ _ c.campaign_app.result
      c.in-Ok.ensures.reading c.in-Ok.ensures.kept c.in-Ok.ensures.telling c.in-Ok.ensures.unsaid c.campaign_app.ensures.answers);
  unread = any_since (g.F.Files.faults c.args.files.now) (g.F.Files.faults c.open_app.new.files) (g.F.Files.faults c.campaign_app.new.files)
      (c.args.asked.now.app.now ∷ file_meant c.args.asked.now.trace.now ∷ []) c.campaign_app.result c.in-Ok.ensures.reads c.campaign_app.ensures.leaves.unread;
  unwritten = λ is.
      rose_since (g.O.Sink.faults c.args.out.now) (g.O.Sink.faults c.open_app.new.out) (g.O.Sink.faults c.campaign_app.new.out)
      c.in-Ok.ensures.writes (c.campaign_app.ensures.leaves.unwritten is);
  writes = le_two (g.O.Sink.faults c.args.out.now) _ _ c.in-Ok.ensures.writes c.campaign_app.ensures.leaves.stays.writes;
  telling = c.campaign_app.ensures.leaves.stays.telling ∙ c.in-Ok.ensures.telling;
  told = λ tells.
      of_app (c.campaign_app.result ≡ Ok Usage) (λ from. TellsNoCase from c.args.asked.now.trace.now) c.in-Ok.opened.app c.in-Ok.opened.sizes
      c.args.asked.now.app.now (g.F.Files.tells c.args.files.now) _ (g.F.Files.held c.args.files.now) _
      (listener_seen g.L.Listener.quiet g.L.Listener.heard g.L.KnownListener.reads g.L.KnownListener.unread g.L.KnownListener.room c.args.listener.now)
      (g.L.Listener.heard c.campaign_app.new.listener) c.in-Ok.ensures.reading c.in-Ok.ensures.kept c.in-Ok.ensures.app (c.campaign_app.ensures.told tells);
  listening = c.campaign_app.ensures.listening;
}

pub returns-in-Err : goal.returns-in-Err
returns-in-Err g c = record {
  answers = tt;
  stops = inl c.in-Err.ensures.stops;
  unread = λ is.
      app_rose (g.F.Files.faults c.args.files.now) (g.F.Files.faults c.open_app.new.files) c.args.asked.now.app.now
      (file_meant c.args.asked.now.trace.now) (c.in-Err.ensures.unread is);
  unwritten = λ is. c.open_app.ensures.unwritten (c.in-Err.is ∙ ap Err (of_err _ c.in-Err.stop Unwritten refl is));
  writes = c.in-Err.ensures.writes;
  telling = c.in-Err.ensures.telling;
  told = λ tells. not_so _ _ _ _ (λ is. cc) refl;
  listening = refl;
}
