use Rattle.std.proofs.Common.{subst, sym}
use Rattle.ps_why.specs.Drivers.{IsStepOf}
use Rattle.ps_why.proofs.steps.step_of.Goals as goal

pub returns-in-SignalIs : goal.returns-in-SignalIs
returns-in-SignalIs c =
    subst (λ f. IsStepOf c.args.app.now f c.driving_step.result) (sym c.in-SignalIs.is) (c.driving_step.ensures c.in-SignalIs.value)

pub returns-in-StateIs : goal.returns-in-StateIs
returns-in-StateIs c =
    subst (λ f. IsStepOf c.args.app.now f c.calling_step.result) (sym c.in-StateIs.is) (c.calling_step.ensures c.in-StateIs.code)

pub returns-in-ModeIs : goal.returns-in-ModeIs
returns-in-ModeIs c =
    subst (λ f. IsStepOf c.args.app.now f c.calling_step-in-ModeIs.result) (sym c.in-ModeIs.is) (c.calling_step-in-ModeIs.ensures 0)
