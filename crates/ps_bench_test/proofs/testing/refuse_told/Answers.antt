use Rattle.std.proofs.Common.{List, ℕ, subst, ◌∙◌}
use Rattle.ps_bench_frame.specs.Stopping.{TookSome}
use Rattle.ps_bench_test.proofs.Stopped.{stops_some}
use Rattle.ps_bench_test.proofs.testing.refuse_told.Goals as goal

pub returns-in-Ok-clause-stops : goal.returns-in-Ok-clause-stops
returns-in-Ok-clause-stops g c = λ from refused. (
  c.args.refusal,
  refused,
  subst (λ (text : List ℕ). TookSome text (g.O.Sink.tells c.args.out.now) (g.O.Sink.taken c.args.out.now) (g.O.Sink.taken c.say.new.out))
      (c.as_slice.ensures ∙ c.in-Ok.ensures)
      (stops_some c.as_slice.result.now c.in-Err-say.field-0 (g.O.Sink.tells c.args.out.now) (g.O.Sink.taken c.args.out.now)
      (g.O.Sink.taken c.say.new.out) c.in-Err-say.ensures.stops),
)
