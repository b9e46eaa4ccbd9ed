use Rattle.std.proofs.Common.{◌∙◌, inl, inr, refl}
use Rattle.ps_bench_frame.proofs.Stopped.{took_part}
use Rattle.ps_bench_frame.specs.Refusing.{rules_refused_line}
use Rattle.ps_bench_never.proofs.forbidding.refuse_rules.Goals as goal

pub returns-in-Ok-clause-stops : goal.returns-in-Ok-clause-stops
returns-in-Ok-clause-stops g c = inr (inl (
  refl,
  took_part (g.O.Sink.tells c.args.out.now) c.in-Err-write_all.field-0.taken (g.O.Sink.taken c.args.out.now) c.as_slice.result.now
      (rules_refused_line c.args.refusal) (g.O.Sink.taken c.write_all.new.out) (c.as_slice.ensures ∙ c.in-Ok.ensures)
      c.in-Err-write_all.ensures.part,
))
