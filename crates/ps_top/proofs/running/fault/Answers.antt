use Rattle.std.proofs.Common.{◌∷◌, []}
use Rattle.ps_top.specs.Program.{run_struck}
use Rattle.ps_top.proofs.Applied.{accepted_answers, checked_none}
use Rattle.ps_top.proofs.running.fault.Goals as goal

pub returns-in-Ok-clause-answers : goal.returns-in-Ok-clause-answers
returns-in-Ok-clause-answers g c =
    accepted_answers c.args.app.now (run_struck c.args.trace.now c.args.faults.now) (c.args.faults.now ∷ c.args.trace.now ∷ []) c.in-Ok.app
    c.in-Ok.ensures.finds.passes c.in-Ok.ensures.finds.gives c.run_struck.ensures.answers

pub returns-in-Err-clause-answers : goal.returns-in-Err-clause-answers
returns-in-Err-clause-answers g c =
    checked_none c.args.app.now (λ source. run_struck c.args.trace.now c.args.faults.now) (c.args.faults.now ∷ c.args.trace.now ∷ []) c.in-Err.ensures.none
