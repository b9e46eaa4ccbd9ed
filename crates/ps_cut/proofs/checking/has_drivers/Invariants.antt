use Rattle.std.proofs.Common.{◌≡◌, ◌<◌, ◌≤◌, ℕ, true}
use Rattle.ps_model.specs.Network.{input_count, is_driven}
use Rattle.ps_cut.proofs.checking.has_drivers.Given as goal

abbrev pub invariant-loop-r : goal.invariant-loop-r
invariant-loop-r l = (r : ℕ) → input_count l.part ≤ r → r < l.r → is_driven l.part r ≡ true
