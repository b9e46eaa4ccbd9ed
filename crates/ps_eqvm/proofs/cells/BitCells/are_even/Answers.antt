use Rattle.std.proofs.Common.{subst}
use Rattle.ps_eqvm.specs.Bits.{AreTruths}
use Rattle.ps_eqvm.proofs.KeptBits.{even_cells}
use Rattle.ps_eqvm.proofs.cells.BitCells.are_even.Goals as goal

pub returns : goal.returns
returns c = λ is.
    subst AreTruths c.self.view_is (even_cells c.self.inside.value.items c.self.inside.odd.items c.self.inside.counted.items (c.self.invariant.1 is))
