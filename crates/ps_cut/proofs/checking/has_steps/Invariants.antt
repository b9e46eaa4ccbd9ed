use Rattle.std.proofs.Common.{◌≡◌, ◌<◌, ℕ, Some}
use Rattle.std.specs.Prelude.{slice_get}
use Rattle.ps_model.specs.Action.{Action}
use Rattle.ps_cut.specs.Parts.{IsStepOf}
use Rattle.ps_cut.proofs.checking.has_steps.Given as goal

abbrev pub invariant-loop-of_part : goal.invariant-loop-of_part
invariant-loop-of_part l = (j : ℕ) (a : Action) → j < l.of_part → slice_get l.claim.part.now.steps j ≡ Some a →
    IsStepOf l.claim.whole.now l.claim.part.now l.claim.origins.now l.claim.instances.now j a
