use Rattle.std.proofs.Common.{refl}
use Rattle.ps_bench_frame.proofs.Stopped.{took_part}
use Rattle.ps_bench_never.proofs.forbidding.write_told.Goals as goal

pub returns-in-Err-clause-some : goal.returns-in-Err-clause-some
returns-in-Err-clause-some g c = (
  refl,
  took_part (g.O.Sink.tells c.args.out.now) c.in-Err.field-0.taken (g.O.Sink.taken c.args.out.now) c.args.text.now
      c.args.text.now (g.O.Sink.taken c.write_all.new.out) refl c.in-Err.ensures.part,
)
