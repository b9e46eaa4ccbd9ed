use Rattle.std.proofs.Common.{refl}
use Rattle.ps_bench_frame.proofs.Stopped.{took_part}
use Rattle.ps_bench_frame.specs.declared.ending.Status.TheVariants.{Done}
use Rattle.ps_bench_campaign.proofs.Leaving.{output_done, output_unwritten}
use Rattle.ps_bench_campaign.proofs.campaigning.write_told.Goals as goal

pub returns-in-Ok : goal.returns-in-Ok
returns-in-Ok g c = record {
  all = (refl, c.in-Ok.ensures.whole);
  some = tt;
  leaves = output_done (g.O.Sink.tells c.args.out.now) _ (g.O.Sink.faults c.args.out.now) _ Done c.in-Ok.ensures.telling c.in-Ok.ensures.counts;
}

pub returns-in-Err : goal.returns-in-Err
returns-in-Err g c = record {
  all = tt;
  some = (
    refl,
    took_part (g.O.Sink.tells c.args.out.now) c.in-Err.field-0.taken (g.O.Sink.taken c.args.out.now) c.args.text.now
        c.args.text.now (g.O.Sink.taken c.write_all.new.out) refl c.in-Err.ensures.part,
  );
  leaves = output_unwritten (g.O.Sink.tells c.args.out.now) _ (g.O.Sink.faults c.args.out.now) _ c.in-Err.ensures.telling c.in-Err.ensures.counts c.in-Err.ensures.stopped;
}
