use Rattle.std.proofs.Common.{◌≡◌, ◌<◌, ℕ, List, Some, length, true}
use Rattle.std.specs.Prelude.{slice_index_or, slice_get}
use Rattle.ps_model.specs.Action.{Actual, free, calls}
use Rattle.ps_model.specs.Network.{kind_at}
use Rattle.ps_model.specs.Scanning.{pin_at}
use Rattle.ps_checker.specs.Derives.{literal_fits}
use Rattle.ps_checker.proofs.checking.has_misfit.Given as goal

abbrev pub invariant-loop-k : goal.invariant-loop-k
invariant-loop-k l = (k : ℕ) → k < l.k → (i j : ℕ) → (args : List Actual) → slice_get l.app.steps k ≡ Some (calls i args) → j < length args →
    literal_fits (pin_at (kind_at l.app i) j).ty (slice_index_or args j free) ≡ true
