use Rattle.std.proofs.Common.{inl, inr, refl}
use Rattle.ps_bench_frame.proofs.Stopped.{took_part}
use Rattle.ps_report.specs.Short.{refusal_text}
use Rattle.ps_bench_watch.proofs.running.refuse_line.Goals as goal

pub returns-in-Ok : goal.returns-in-Ok
returns-in-Ok g c = record {
  stops = inl (refl, c.in-Ok.ensures.whole);
  read = λ is. cc;
  unwritten = λ is. cc;
  writes = c.tell_refusal.ensures.counts;
  telling = c.tell_refusal.ensures.telling;
}

pub returns-in-Err : goal.returns-in-Err
returns-in-Err g c = record {
  stops = inr (
    refl,
    took_part (g.O.Sink.tells c.args.out.now) c.in-Err.field-0.taken (g.O.Sink.taken c.args.out.now) (refusal_text c.args.refusal)
        (refusal_text c.args.refusal) (g.O.Sink.taken c.tell_refusal.new.out) refl
        c.in-Err.ensures.part,
  );
  read = λ is. cc;
  unwritten = λ is. c.in-Err.ensures.unwritten;
  writes = c.tell_refusal.ensures.counts;
  telling = c.tell_refusal.ensures.telling;
}
