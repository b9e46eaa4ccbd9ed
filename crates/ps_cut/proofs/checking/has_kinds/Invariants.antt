use Rattle.std.proofs.Common.{◌≡◌, ◌<◌, ℕ, Some}
use Rattle.std.specs.Prelude.{slice_get}
use Rattle.ps_model.specs.Network.{instance_count, kind_at}
use Rattle.ps_cut.proofs.checking.has_kinds.Given as goal

abbrev pub invariant-loop-i : goal.invariant-loop-i
invariant-loop-i l = (i h : ℕ) → i < l.i → slice_get l.claim.instances.now i ≡ Some h →
    (h < instance_count l.claim.whole.now) × (kind_at l.claim.part.now i ≡ kind_at l.claim.whole.now h)
