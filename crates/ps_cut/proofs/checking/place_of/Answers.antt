use Rattle.std.proofs.Common.{refl, arith}
use Rattle.ps_model.proofs.Once.{element_at}
use Rattle.ps_cut.proofs.checking.place_of.Goals as goal

pub returns-then-is_step_copy-clause-copy : goal.returns-then-is_step_copy-clause-copy
returns-then-is_step_copy-clause-copy c = λ a at.
    let e = element_at c.args.claim.now.whole.now.steps c.loop-of_whole.of_whole (omega (arith, c.loop-of_whole-test.true, c.step_count-of_whole-end.ensures)) in
    record { place = c.loop-of_whole.of_whole; step = e.0; at = e.1; copy = c.if-is_step_copy.ensures refl a e.0 at e.1 }
