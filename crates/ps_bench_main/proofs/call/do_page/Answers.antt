use Rattle.std.proofs.Common.{refl}
use Rattle.ps_bench_frame.proofs.Stopped.{took_part}
use Rattle.ps_bench_main.proofs.call.do_page.Goals as goal

pub returns-in-Err-clause-stops : goal.returns-in-Err-clause-stops
returns-in-Err-clause-stops g c = (
  refl,
  took_part (g.O.Sink.tells c.args.out.now) c.in-Err.field-0.taken (g.O.Sink.taken c.args.out.now) c.as_bytes.result.now c.args.text.now
      (g.O.Sink.taken c.write_all.new.out) c.as_bytes.ensures.value c.in-Err.ensures.part,
)
