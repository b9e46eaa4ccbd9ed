use Rattle.std.proofs.Common.{Some, ap, ◌∙◌, sym}
use Rattle.std.specs.Prelude.{slice_index}
use Rattle.ps_eqvm.specs.Bits.{truth_of}
use Rattle.ps_eqvm.proofs.KeptBits.{truth_even}
use Rattle.ps_eqvm.proofs.OneBit.{cell_at}
use Rattle.ps_eqvm.proofs.cells.BitCells.at.Goals as goal

pub read-requires-clause-within : goal.read-requires-clause-within
read-requires-clause-within c =
    rw c.deref-else-are_even-2.ensures.value ((cell_at c.self.inside.value.items c.self.inside.odd.items c.self.inside.counted.items c.args.self.now c.args.i c.self.view_is c.requires).0)

pub returns-then-are_even : goal.returns-then-are_even
returns-then-are_even c = ap Some c.is_one.ensures ∙ sym (truth_even (slice_index c.args.self.now c.args.i) (c.are_even.ensures c.if-are_even.true c.args.i c.requires))

pub returns-else-are_even : goal.returns-else-are_even
returns-else-are_even c =
    let at = (cell_at c.self.inside.value.items c.self.inside.odd.items c.self.inside.counted.items c.args.self.now c.args.i c.self.view_is c.requires).1 in
    c.read.ensures ∙ rw (c.deref.ensures.value, c.deref-else-are_even.ensures.value, c.deref-else-are_even-2.ensures.value) (ap truth_of (sym at))
