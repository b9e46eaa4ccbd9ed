use Rattle.std.proofs.Common.{◌≡◌, ◌∙◌, ℕ, List, length, refl, sym, ap, inr, false-eqb}
use Rattle.ps_bench_frame.proofs.Stopped.{took_part}
use Rattle.ps_bench_frame.proofs.answering.write_end.Goals as goal

pub returns-in-Err-clause-ends : goal.returns-in-Err-clause-ends
returns-in-Err-clause-ends g c = inr (
  refl,
  (λ empty. false-eqb (length c.args.text.now) 0 (sym c.if-is_empty.false ∙ c.is_empty.ensures) (ap length empty)),
  took_part (g.C.Call.seen c.args.call.now).out.tells c.in-Err.field-0.taken (g.C.Call.seen c.args.call.now).out.taken c.args.text.now
      c.args.text.now (g.C.Call.seen c.write.new.self).out.taken refl c.in-Err.ensures.part,
)
