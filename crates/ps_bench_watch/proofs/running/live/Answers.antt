use Rattle.std.proofs.Common.{◌≡◌, ◌∙◌, Err, inl, ap, subst, arith}
use Rattle.ps_bench_frame.proofs.Stopped.{rose_since}
use Rattle.ps_bench_frame.specs.Stopping.{StopsAtApp}
use Rattle.ps_bench_frame.specs.declared.ending.Input.TheVariants.{Trace}
use Rattle.ps_bench_frame.specs.declared.ending.InputStop.TheVariants.{Unread}
use Rattle.ps_bench_frame.specs.declared.ending.Stop.{Stop}
use Rattle.ps_bench_frame.specs.declared.ending.Stop.TheVariants.{Input, Unwritten}
use Rattle.ps_bench_watch.specs.LiveAsking.{fed}
use Rattle.ps_bench_watch.proofs.LiveComing.{answered, moved, stopped, unread_of_two}
use Rattle.ps_bench_watch.proofs.running.live.Goals as goal

pub returns-in-Ok : goal.returns-in-Ok
returns-in-Ok g c = record {
  answers =
      let from = fed (g.I.Stream.tells c.args.input.now) (g.I.Stream.coming c.args.input.now) (g.I.Stream.coming c.run_app.new.input) in
      answered c.args.asked.now.names c.in-Ok.opened.app c.in-Ok.opened.sizes c.args.asked.now.app.now from
      (g.F.Files.tells c.args.files.now) (g.F.Files.held c.args.files.now) (g.O.Sink.tells c.args.out.now)
      (g.O.Sink.taken c.args.out.now) (g.O.Sink.taken c.run_app.new.out) c.run_app.result c.in-Ok.ensures.app
      (moved c.args.asked.now.names c.in-Ok.opened.app from _ _ _ _ _ c.run_app.result c.in-Ok.ensures.telling c.in-Ok.ensures.unsaid c.run_app.ensures.ends);
  stops =
      let from = fed (g.I.Stream.tells c.args.input.now) (g.I.Stream.coming c.args.input.now) (g.I.Stream.coming c.run_app.new.input) in
      stopped c.args.asked.now.names c.in-Ok.opened.app c.in-Ok.opened.sizes c.args.asked.now.app.now from
      (g.F.Files.tells c.args.files.now) (g.F.Files.held c.args.files.now) (g.O.Sink.tells c.args.out.now)
      (g.O.Sink.taken c.args.out.now) (g.O.Sink.taken c.run_app.new.out) c.run_app.result c.in-Ok.ensures.app
      (moved c.args.asked.now.names c.in-Ok.opened.app from _ _ _ _ _ c.run_app.result c.in-Ok.ensures.telling c.in-Ok.ensures.unsaid c.run_app.ensures.ends);
  handed_on_before = c.run_app.ensures.handed_on_before;
  unread =
      let app = c.args.asked.now.app.now in
      unread_of_two (g.F.Files.faults c.args.files.now app) (g.F.Files.faults c.open_app.new.files app) (g.I.Stream.faults c.args.input.now)
      (g.I.Stream.faults c.run_app.new.input) c.run_app.result c.run_app.ensures.unread;
  unwritten = λ is.
      rose_since (g.O.Sink.faults c.args.out.now) (g.O.Sink.faults c.open_app.new.out) (g.O.Sink.faults c.run_app.new.out)
      c.in-Ok.ensures.writes (c.run_app.ensures.unwritten is);
  writes = omega (arith, c.in-Ok.ensures.writes, c.run_app.ensures.writes);
  telling = c.run_app.ensures.telling ∙ c.in-Ok.ensures.telling;
}

pub returns-in-Err : goal.returns-in-Err
returns-in-Err g c = record {
  answers = tt;
  stops = inl c.in-Err.ensures.stops;
  handed_on_before = λ is.
      let so : c.in-Err.stop ≡ Input (Unread Trace) = cc in
      absurd (subst (λ (stop : Stop). StopsAtApp (g.F.Files.tells c.args.files.now) (g.F.Files.held c.args.files.now) c.args.asked.now.app.now stop
      (g.O.Sink.tells c.args.out.now) (g.O.Sink.taken c.args.out.now) (g.O.Sink.taken c.open_app.new.out)) so c.in-Err.ensures.stops);
  unread = λ is. inl (c.in-Err.ensures.unread is);
  unwritten = λ is.
      let at : c.in-Err.stop ≡ Unwritten = cc in
      c.open_app.ensures.unwritten (c.in-Err.is ∙ ap Err at);
  writes = c.in-Err.ensures.writes;
  telling = c.in-Err.ensures.telling;
}
