use Rattle.std.proofs.Common.{◌∙◌, ◌++◌, inl, inr, refl, ap}
use Rattle.ps_bench_frame.proofs.Stopped.{took_part}
use Rattle.ps_bench_frame.specs.declared.ending.Status.TheVariants.{Done}
use Rattle.ps_bench_report.proofs.Reading.{output_done, output_short, output_unwritten}
use Rattle.ps_bench_report.proofs.reporting.write_report.Goals as goal

pub returns-in-Ok-write_all : goal.returns-in-Ok-write_all
returns-in-Ok-write_all g c = record {
  ends = (
    refl,
    c.in-Ok.text,
    c.in-Ok.ensures,
    λ told. c.in-Ok-write_all.ensures.whole told ∙ ap (λ t. g.O.Sink.taken c.args.out.now ++ t) c.as_slice.ensures,
  );
  leaves = output_done (g.O.Sink.tells c.args.out.now) (g.O.Sink.tells c.write_all.new.out) (g.O.Sink.faults c.args.out.now) (g.O.Sink.faults c.write_all.new.out) Done
      c.in-Ok-write_all.ensures.telling c.in-Ok-write_all.ensures.counts;
}

pub returns-in-Ok : goal.returns-in-Ok
returns-in-Ok g c = record {
  ends = inr (
    c.in-Ok.text,
    c.in-Ok.ensures,
    took_part (g.O.Sink.tells c.args.out.now) c.in-Err-write_all.field-0.taken (g.O.Sink.taken c.args.out.now) c.as_slice.result.now c.in-Ok.text
        (g.O.Sink.taken c.write_all.new.out) c.as_slice.ensures c.in-Err-write_all.ensures.part,
  );
  leaves = output_unwritten (g.O.Sink.tells c.args.out.now) (g.O.Sink.tells c.write_all.new.out) (g.O.Sink.faults c.args.out.now) (g.O.Sink.faults c.write_all.new.out)
      c.in-Err-write_all.ensures.telling c.in-Err-write_all.ensures.counts c.in-Err-write_all.ensures.stopped;
}

pub returns : goal.returns
returns g c = record { ends = inl (refl, λ told. refl); leaves = output_short (g.O.Sink.tells c.args.out.now) (g.O.Sink.faults c.args.out.now) }
