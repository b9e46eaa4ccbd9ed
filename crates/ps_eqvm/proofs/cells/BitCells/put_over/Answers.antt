use Rattle.std.proofs.Common.{◌<◌, ℕ, List, ap, ◌∙◌, sym, subst, arith}
use Rattle.std.specs.Prelude.{slice_set}
use Rattle.std.proofs.lemmas.List.{with_items_is}
use Rattle.ps_machine.specs.Bytes.{bit}
use Rattle.ps_eqvm.specs.Bits.{AreCells, plain_cell, plain_cells}
use Rattle.ps_eqvm.proofs.OneBit.{cell_at}
use Rattle.ps_eqvm.proofs.KeptBits.{even_cell}
use Rattle.ps_eqvm.proofs.cells.BitCells.put_over.Goals as goal

pub write_over-requires-clause-within : goal.write_over-requires-clause-within
write_over-requires-clause-within c =
    rw c.deref-2.ensures.value ((cell_at c.self.inside.value.items c.self.inside.odd.items c.self.inside.counted.items c.args.self.now c.args.i c.self.view_is c.requires.within).0)

pub write_over-requires-clause-even : goal.write_over-requires-clause-even
write_over-requires-clause-even c =
    let v = c.self.inside.value.items in
    let o = c.self.inside.odd.items in
    let k = c.self.inside.counted.items in
    let at = (cell_at v o k c.args.self.now c.args.i c.self.view_is c.requires.within).1 in
    let small : plain_cell v o k c.args.i < 2 = omega (arith, at, c.requires.even) in
    rw c.deref.ensures.value (even_cell v o k c.args.i c.self.invariant.0 small)

pub write_over-requires-clause-cells : goal.write_over-requires-clause-cells
write_over-requires-clause-cells c =
    rw (c.deref_mut.ensures.value, c.deref.ensures.value, c.deref-2.ensures.value) c.self.invariant.0

pub invariant_of-self : goal.invariant_of-self
invariant_of-self c =
    let value = c.write_over.new.value in
    let v = with_items_is c.self.inside.value value (omega arith) in (
      rw v (subst (λ (k : List ℕ). AreCells value c.self.inside.odd.items k) c.deref-2.ensures.value
          (subst (λ (o : List ℕ). AreCells value o c.deref-2.result.now) c.deref.ensures.value c.write_over.ensures.cells)),
      c.self.invariant.1,
    )

pub returns : goal.returns
returns c =
    let value = c.write_over.new.value in
    let v = with_items_is c.self.inside.value value (omega arith) in
    (λ x. plain_cells (v x) c.self.inside.odd.items c.self.inside.counted.items)
    ∙ (λ x. plain_cells value (sym c.deref.ensures.value x) (sym c.deref-2.ensures.value x))
    ∙ c.write_over.ensures.written
    ∙ (λ x. slice_set (plain_cells (c.deref_mut.ensures.value x) (c.deref.ensures.value x) (c.deref-2.ensures.value x)) c.args.i (bit c.args.on))
    ∙ ap (λ (l : List ℕ). slice_set l c.args.i (bit c.args.on)) c.self.view_is
