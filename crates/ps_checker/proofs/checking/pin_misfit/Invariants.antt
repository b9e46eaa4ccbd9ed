use Rattle.std.proofs.Common.{◌≡◌, ◌<◌, ℕ, true}
use Rattle.std.specs.Prelude.{slice_index_or}
use Rattle.ps_model.specs.Action.{free}
use Rattle.ps_model.specs.Network.{kind_at}
use Rattle.ps_model.specs.Scanning.{pin_at}
use Rattle.ps_checker.specs.Derives.{literal_fits}
use Rattle.ps_checker.proofs.checking.pin_misfit.Given as goal

abbrev pub invariant-loop-j : goal.invariant-loop-j
invariant-loop-j l = (j : ℕ) → j < l.j → literal_fits (pin_at (kind_at l.app l.i) j).ty (slice_index_or l.args j free) ≡ true
