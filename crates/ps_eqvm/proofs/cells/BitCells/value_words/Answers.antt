use Rattle.std.proofs.Common.{subst, List, ℕ}
use Rattle.std.specs.Prelude.{◌==◌}
use Rattle.ps_eqvm.specs.Bits.{AreBitsOf}
use Rattle.ps_eqvm.proofs.KeptBits.{value_bits}
use Rattle.ps_eqvm.proofs.cells.BitCells.value_words.Goals as goal

pub returns : goal.returns
returns c =
    subst (λ (l : List ℕ). AreBitsOf (λ byte. byte == 1) l c.deref.result.now) c.self.view_is
    (rw c.deref.ensures.value (value_bits c.self.inside.value.items c.self.inside.odd.items c.self.inside.counted.items c.self.invariant.0))
