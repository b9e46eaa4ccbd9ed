use Rattle.std.proofs.Common.{◌∙◌, ◌++◌, ℕ, List, [], append-nil, ap, inl, inr, refl, sym}
use Rattle.ps_bench_frame.proofs.Stopped.{took_part}
use Rattle.ps_bench_frame.specs.Refusing.{sum_refused_line}
use Rattle.ps_bench_campaign.proofs.Leaving.{memory_is, memory_read, no_more, unwritten_read}
use Rattle.ps_bench_campaign.proofs.summing.refuse_sum.Goals as goal

pub returns-in-Ok-write_all : goal.returns-in-Ok-write_all
returns-in-Ok-write_all g c = record {
  refuses = inl (
    refl,
    λ tells. c.in-Ok-write_all.ensures.whole tells
        ∙ ap (λ (line : List ℕ). g.O.Sink.taken c.args.out.now ++ line) (c.as_slice.ensures ∙ c.in-Ok.ensures),
  );
  read = λ is. cc;
  unwritten = λ is. cc;
  writes = c.in-Ok-write_all.ensures.counts;
  telling = c.in-Ok-write_all.ensures.telling;
}

pub returns-in-Ok : goal.returns-in-Ok
returns-in-Ok g c = record {
  refuses = inr (
    inl refl,
    took_part (g.O.Sink.tells c.args.out.now) c.in-Err-write_all.field-0.taken (g.O.Sink.taken c.args.out.now) c.as_slice.result.now
        (sum_refused_line c.args.refusal) (g.O.Sink.taken c.write_all.new.out) (c.as_slice.ensures ∙ c.in-Ok.ensures)
        c.in-Err-write_all.ensures.part,
  );
  read = λ is. unwritten_read is;
  unwritten = λ is. c.in-Err-write_all.ensures.stopped;
  writes = c.in-Err-write_all.ensures.counts;
  telling = c.in-Err-write_all.ensures.telling;
}

pub returns : goal.returns
returns g c = record {
  refuses = inr (inr refl, λ told. ([], sum_refused_line c.args.refusal, sym (append-nil (g.O.Sink.taken c.args.out.now)), refl));
  read = λ is. memory_read is;
  unwritten = λ is. memory_is is;
  writes = no_more (g.O.Sink.faults c.args.out.now);
  telling = refl;
}
