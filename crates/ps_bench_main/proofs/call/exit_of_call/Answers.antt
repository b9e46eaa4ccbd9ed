use Rattle.std.proofs.Common.{◌∙◌, ap, inl, inr}
use Rattle.ps_bench_frame.specs.Ending.{exit_number}
use Rattle.ps_bench_main.proofs.call.exit_of_call.Goals as goal

pub returns-in-Ok-clause-does : goal.returns-in-Ok-clause-does
returns-in-Ok-clause-does g c = (
  c.in-Ok.status,
  c.exit_code.ensures,
  c.in-Ok.ensures.answers,
  (λ not. inr (c.in-Ok.ensures.cut_off not)),
  c.in-Ok.ensures.unwritten,
)

pub returns-in-Ok-clause-handed_on : goal.returns-in-Ok-clause-handed_on
returns-in-Ok-clause-handed_on g c = λ not. inl (c.in-Ok.ensures.handed_on (λ is. not (c.exit_code.ensures ∙ ap exit_number is)))

pub returns-in-Ok-clause-meanwhile : goal.returns-in-Ok-clause-meanwhile
returns-in-Ok-clause-meanwhile g c = λ tells.
    let told = c.in-Ok.ensures.meanwhile tells in
    inr (c.in-Ok.status, c.exit_code.ensures, told.0, told.1, told.2)
