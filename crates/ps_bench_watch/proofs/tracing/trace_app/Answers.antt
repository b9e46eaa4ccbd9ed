use Rattle.std.proofs.Common.{◌≡◌, ◌++◌, inl, inr, refl}
use Rattle.ps_bench_frame.proofs.Stopped.{rose_since}
use Rattle.ps_bench_frame.specs.Opening.{source}
use Rattle.ps_bench_frame.specs.declared.ending.Stop.TheVariants.{Unwritten}
use Rattle.ps_bench_logs.specs.Log.{log_of}
use Rattle.ps_bench_logs.specs.Log.End.{whole}
use Rattle.ps_bench_logs.specs.Recording.{log_trace}
use Rattle.ps_bench_watch.proofs.Recorded.{began, of_text, refused_at}
use Rattle.ps_bench_watch.proofs.tracing.trace_app.Goals as goal

pub returns-in-Ok-clause-answers : goal.returns-in-Ok-clause-answers
returns-in-Ok-clause-answers g c =
    let net = c.args.opened.now.app in
    let before = g.O.Sink.taken c.args.out.now in
    let after = g.O.Sink.taken c.record.new.out in
    of_text (source net c.args.opened.now.sizes (g.F.Files.tells c.args.files.now) (g.F.Files.held c.args.files.now))
    c.args.log.now (g.O.Sink.tells c.args.out.now)
    (λ text. ((log_of net text).end ≡ whole) × (after ≡ before ++ log_trace net text))
    (λ told. c.in-Ok.ensures.found told tt) c.in-Ok.ensures.leaves

pub returns-in-Err-Refused-clause-answers : goal.returns-in-Err-Refused-clause-answers
returns-in-Err-Refused-clause-answers g c =
    inl (refused_at c.args.opened.now.app c.args.opened.now.sizes c.args.log.now
    (g.F.Files.tells c.args.files.now) (g.F.Files.held c.args.files.now) (g.O.Sink.tells c.args.out.now) (g.O.Sink.tells c.record.new.out)
    (g.O.Sink.taken c.args.out.now) (g.O.Sink.taken c.record.new.out) (g.O.Sink.taken c.refuse_log.new.out)
    c.in-Err-Refused.field-0 c.in-Err-Refused.refusal c.refuse_log.result c.in-Err-Refused.field-0-is
    c.record.ensures.telling c.in-Err-Refused.ensures.found c.in-Err-Refused.ensures.leaves c.refuse_log.ensures.refuses)

pub returns-in-Err-Refused-clause-unwritten : goal.returns-in-Err-Refused-clause-unwritten
returns-in-Err-Refused-clause-unwritten g c = λ is.
    let so : c.refuse_log.result ≡ Unwritten = cc in
    rose_since (g.O.Sink.faults c.args.out.now) (g.O.Sink.faults c.record.new.out) (g.O.Sink.faults c.refuse_log.new.out)
    c.record.ensures.writes (c.refuse_log.ensures.unwritten so)

pub returns-in-Err-Fault-clause-answers : goal.returns-in-Err-Fault-clause-answers
returns-in-Err-Fault-clause-answers g c = inr (
  inl refl,
  λ told out text at.
      began (log_trace c.args.opened.now.app text) (log_of c.args.opened.now.app text).end (g.O.Sink.taken c.args.out.now)
      (g.O.Sink.taken c.record.new.out) c.in-Err-Fault.field-0 (c.in-Err-Fault.ensures.leaves told out text at),
)

pub returns-in-Err-Unwritten-clause-answers : goal.returns-in-Err-Unwritten-clause-answers
returns-in-Err-Unwritten-clause-answers g c = inr (
  inr (inl refl),
  λ told out text at.
      began (log_trace c.args.opened.now.app text) (log_of c.args.opened.now.app text).end (g.O.Sink.taken c.args.out.now)
      (g.O.Sink.taken c.record.new.out) c.in-Err-Unwritten.field-0 (c.in-Err-Unwritten.ensures.leaves told out text at),
)

pub returns-in-Err-Memory-clause-answers : goal.returns-in-Err-Memory-clause-answers
returns-in-Err-Memory-clause-answers g c = inr (
  inr (inr refl),
  λ told out text at.
      began (log_trace c.args.opened.now.app text) (log_of c.args.opened.now.app text).end (g.O.Sink.taken c.args.out.now)
      (g.O.Sink.taken c.record.new.out) c.in-Err-Memory.field-0 (c.in-Err-Memory.ensures.leaves told out text at),
)
