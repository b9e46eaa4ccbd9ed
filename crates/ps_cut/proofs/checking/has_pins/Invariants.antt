use Rattle.std.proofs.Common.{◌≡◌, ◌+◌, ◌<◌, ℕ, Some}
use Rattle.std.specs.Prelude.{slice_get}
use Rattle.ps_model.specs.Blocks.{output_count}
use Rattle.ps_model.specs.Network.{first_pin, kind_at}
use Rattle.ps_cut.specs.declared.part.Origin.TheVariants.{Now}
use Rattle.ps_cut.proofs.checking.has_pins.Given as goal

abbrev pub invariant-loop-i : goal.invariant-loop-i
invariant-loop-i l = (i h o : ℕ) → i < l.i → slice_get l.claim.instances.now i ≡ Some h → o < output_count (kind_at l.claim.part.now i) →
    slice_get l.claim.origins.now (first_pin l.claim.part.now i + o) ≡ Some (Now (first_pin l.claim.whole.now h + o))
