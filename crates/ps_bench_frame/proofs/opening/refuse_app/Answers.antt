use Rattle.std.proofs.Common.{Err, subst, ◌∙◌}
use Rattle.ps_outside.specs.declared.text_fail.TextFail.{TextFail}
use Rattle.ps_report.specs.Short.{refusal_text}
use Rattle.ps_accepted.specs.Answering.{Reads}
use Rattle.ps_accepted.specs.Source.{IsAcceptedAs}
use Rattle.ps_bench_frame.specs.Opening.{GivesNet}
use Rattle.ps_bench_frame.proofs.Stopped.{took_part}
use Rattle.ps_bench_frame.proofs.opening.refuse_app.Goals as goal

pub returns-in-Err-clause-stops : goal.returns-in-Err-clause-stops
returns-in-Err-clause-stops g c = λ reading held name read. (
  c.in-Refused.refusal,
  λ tells. subst (λ (why : TextFail). Reads GivesNet IsAcceptedAs (held name) (Err why)) c.in-Refused.is (read tells),
  took_part (g.O.Sink.tells c.args.out.now) c.in-Err.field-0.taken (g.O.Sink.taken c.args.out.now) c.as_slice.result.now
      (refusal_text c.in-Refused.refusal) (g.O.Sink.taken c.write_all.new.out) (c.as_slice.ensures ∙ c.refusal_line.ensures)
      c.in-Err.ensures.part,
)
