use Rattle.std.proofs.Common.{subst, List, ℕ}
use Rattle.std.specs.Prelude.{nat_lt}
use Rattle.ps_eqvm.specs.Bits.{AreBitsOf}
use Rattle.ps_eqvm.proofs.KeptBits.{odd_bits}
use Rattle.ps_eqvm.proofs.cells.BitCells.odd_words.Goals as goal

pub returns : goal.returns
returns c =
    subst (λ (l : List ℕ). AreBitsOf (nat_lt 1) l c.deref.result.now) c.self.view_is
    (rw c.deref.ensures.value (odd_bits c.self.inside.value.items c.self.inside.odd.items c.self.inside.counted.items c.self.invariant.0))
