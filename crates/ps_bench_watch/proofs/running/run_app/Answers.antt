use Rattle.std.proofs.Common.{◌≡◌, ◌∙◌, Err, inl, inr, refl, ap, arith}
use Rattle.ps_bench_frame.proofs.Stopped.{rose_since}
use Rattle.ps_bench_frame.specs.Ending.{stop_status}
use Rattle.ps_bench_frame.specs.declared.ending.Input.TheVariants.{Trace}
use Rattle.ps_bench_frame.specs.declared.ending.InputStop.TheVariants.{Unread}
use Rattle.ps_bench_frame.specs.declared.ending.Stop.TheVariants.{Input, Unwritten}
use Rattle.ps_bench_watch.specs.LiveAsking.{fed}
use Rattle.ps_bench_watch.proofs.LiveComing.{at_line, ran}
use Rattle.ps_bench_watch.specs.declared.living.LiveStop as living
use Rattle.ps_bench_watch.proofs.running.run_app.Goals as goal

pub returns-in-Ok : goal.returns-in-Ok
returns-in-Ok g c = record {
  ends = (c.in-Ok.trips, c.status_by.ensures, c.in-Ok.ensures.runs);
  handed_on_before = λ is. cc;
  unread = tt;
  unwritten = λ is. cc;
  writes = c.run_stream.ensures.leaves.writes;
  telling = c.run_stream.ensures.leaves.telling;
}

pub returns-in-Err-Refused : goal.returns-in-Err-Refused
returns-in-Err-Refused g c = record {
  ends =
      at_line c.args.names c.args.app.now
      (fed (g.I.Stream.tells c.args.input.now) (g.I.Stream.coming c.args.input.now) (g.I.Stream.coming c.run_stream.new.input))
      (g.O.Sink.tells c.args.out.now) (g.O.Sink.tells c.run_stream.new.out) (g.O.Sink.taken c.args.out.now)
      (g.O.Sink.taken c.run_stream.new.out) (g.O.Sink.taken c.refuse_line.new.out) c.in-Err-Refused.field-0 c.in-Err-Refused.refusal
      c.refuse_line.result c.in-Err-Refused.field-0-is c.run_stream.ensures.leaves.telling c.in-Err-Refused.ensures.runs c.refuse_line.ensures.stops;
  handed_on_before = λ is.
      let so : c.refuse_line.result ≡ Input (Unread Trace) = cc in
      absurd (c.refuse_line.ensures.read (ap stop_status so));
  unread = λ unread. absurd (c.refuse_line.ensures.read unread);
  unwritten = λ is.
      let so : c.refuse_line.result ≡ Unwritten = cc in
      rose_since (g.O.Sink.faults c.args.out.now) (g.O.Sink.faults c.run_stream.new.out) (g.O.Sink.faults c.refuse_line.new.out)
      c.run_stream.ensures.leaves.writes (c.refuse_line.ensures.unwritten so);
  writes = omega (arith, c.run_stream.ensures.leaves.writes, c.refuse_line.ensures.writes);
  telling = c.refuse_line.ensures.telling ∙ c.run_stream.ensures.leaves.telling;
}

pub returns-in-Err-Unread : goal.returns-in-Err-Unread
returns-in-Err-Unread g c =
    let here = c.in-Err-Unread.is ∙ ap Err c.in-Err-Unread.field-0-is in
    record {
      ends = inr (inl (
        refl,
        ran c.args.names c.args.app.now
            (fed (g.I.Stream.tells c.args.input.now) (g.I.Stream.coming c.args.input.now) (g.I.Stream.coming c.run_stream.new.input))
            (g.O.Sink.tells c.args.out.now) (g.O.Sink.taken c.args.out.now) (g.O.Sink.taken c.run_stream.new.out) c.in-Err-Unread.field-0
            living.TheVariants.Unread c.in-Err-Unread.field-0-is c.in-Err-Unread.ensures.runs,
      ));
      handed_on_before = λ is. c.run_stream.ensures.leaves.handed_on refl here;
      unread = λ unread. c.run_stream.ensures.leaves.unread here;
      unwritten = λ is. cc;
      writes = c.run_stream.ensures.leaves.writes;
      telling = c.run_stream.ensures.leaves.telling;
    }

pub returns-in-Err-Unwritten : goal.returns-in-Err-Unwritten
returns-in-Err-Unwritten g c = record {
  ends = inr (inr (inl (
    refl,
    ran c.args.names c.args.app.now
        (fed (g.I.Stream.tells c.args.input.now) (g.I.Stream.coming c.args.input.now) (g.I.Stream.coming c.run_stream.new.input))
        (g.O.Sink.tells c.args.out.now) (g.O.Sink.taken c.args.out.now) (g.O.Sink.taken c.run_stream.new.out) c.in-Err-Unwritten.field-0
        living.TheVariants.Unwritten c.in-Err-Unwritten.field-0-is c.in-Err-Unwritten.ensures.runs,
  )));
  handed_on_before = λ is. cc;
  unread = λ unread. cc;
  unwritten = λ is. c.run_stream.ensures.leaves.unwritten (c.in-Err-Unwritten.is ∙ ap Err c.in-Err-Unwritten.field-0-is);
  writes = c.run_stream.ensures.leaves.writes;
  telling = c.run_stream.ensures.leaves.telling;
}

pub returns-in-Err-Memory : goal.returns-in-Err-Memory
returns-in-Err-Memory g c = record {
  ends = inr (inr (inr (
    refl,
    ran c.args.names c.args.app.now
        (fed (g.I.Stream.tells c.args.input.now) (g.I.Stream.coming c.args.input.now) (g.I.Stream.coming c.run_stream.new.input))
        (g.O.Sink.tells c.args.out.now) (g.O.Sink.taken c.args.out.now) (g.O.Sink.taken c.run_stream.new.out) c.in-Err-Memory.field-0
        living.TheVariants.Memory c.in-Err-Memory.field-0-is c.in-Err-Memory.ensures.runs,
  )));
  handed_on_before = λ is. cc;
  unread = λ unread. cc;
  unwritten = λ is. cc;
  writes = c.run_stream.ensures.leaves.writes;
  telling = c.run_stream.ensures.leaves.telling;
}
