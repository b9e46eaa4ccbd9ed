use Rattle.std.proofs.Common.{arith}
use Rattle.std.proofs.lemmas.Option.{slice_get_within}
use Rattle.ps_cut.proofs.checking.has_steps.Goals as goal

pub returns : goal.returns
returns c = λ on j a at.
    c.loop-of_part.invariant j a (omega (arith, c.loop-of_part-test.false, c.step_count-of_part-end.ensures, slice_get_within c.args.claim.now.part.now.steps j a at)) at
