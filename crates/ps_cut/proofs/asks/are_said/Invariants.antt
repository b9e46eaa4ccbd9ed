use Rattle.std.proofs.Common.{◌≡◌, ◌<◌, ℕ, Some}
use Rattle.std.specs.Prelude.{slice_get}
use Rattle.ps_reach.specs.declared.asked.InputRule.{InputRule}
use Rattle.ps_cut.specs.Asking.{IsSaidOf}
use Rattle.ps_cut.specs.declared.part.Origin.{Origin}
use Rattle.ps_cut.proofs.asks.are_said.Given as goal

abbrev pub invariant-loop-r : goal.invariant-loop-r
invariant-loop-r l = (r : ℕ) (o : Origin) (said : InputRule) → r < l.r → slice_get l.claim.origins.now r ≡ Some o → slice_get l.inputs r ≡ Some said →
    IsSaidOf l.claim.whole.now l.claim.part.now l.claim.origins.now l.claim.instances.now l.q o said
