use Rattle.std.proofs.Common.{[], ◌∙◌, append-nil, inl, inr, refl, sym}
use Rattle.ps_bench_frame.proofs.Stopped.{took_part}
use Rattle.ps_bench_frame.specs.Refusing.{log_refused_line}
use Rattle.ps_bench_frame.proofs.refusing.refuse_log.Goals as goal

pub returns-in-Ok-clause-refuses : goal.returns-in-Ok-clause-refuses
returns-in-Ok-clause-refuses g c = inr (
  inl refl,
  took_part (g.O.Sink.tells c.args.out.now) c.in-Err-write_all.field-0.taken (g.O.Sink.taken c.args.out.now) c.as_slice.result.now
      (log_refused_line c.args.refusal) (g.O.Sink.taken c.write_all.new.out) (c.as_slice.ensures ∙ c.in-Ok.ensures)
      c.in-Err-write_all.ensures.part,
)

pub returns-clause-refuses : goal.returns-clause-refuses
returns-clause-refuses g c = inr (inr refl, λ told. ([], log_refused_line c.args.refusal, sym (append-nil (g.O.Sink.taken c.args.out.now)), refl))
