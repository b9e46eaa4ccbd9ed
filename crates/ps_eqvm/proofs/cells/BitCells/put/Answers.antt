use Rattle.std.proofs.Common.{ℕ, List, ap, ◌∙◌, sym, subst, arith}
use Rattle.std.specs.Prelude.{slice_set}
use Rattle.std.proofs.lemmas.List.{with_items_is}
use Rattle.ps_machine.specs.Bytes.{bit}
use Rattle.ps_eqvm.specs.Bits.{AreCells, bit_in, plain_cells}
use Rattle.ps_eqvm.proofs.OneBit.{cell_at}
use Rattle.ps_eqvm.proofs.cells.BitCells.put.Goals as goal

pub write-requires-clause-cells : goal.write-requires-clause-cells
write-requires-clause-cells c =
    rw (c.deref_mut.ensures.value, c.deref_mut-2.ensures.value, c.deref.ensures.value) c.self.invariant.0

pub write-requires-clause-within : goal.write-requires-clause-within
write-requires-clause-within c =
    rw c.deref.ensures.value ((cell_at c.self.inside.value.items c.self.inside.odd.items c.self.inside.counted.items c.args.self.now c.args.i c.self.view_is c.requires).0)

pub invariant_of-self : goal.invariant_of-self
invariant_of-self c =
    let value = c.write.new.value in
    let odd = c.write.new.odd in
    let v = with_items_is c.self.inside.value value (omega arith) in
    let o = with_items_is c.self.inside.odd odd (omega arith) in (
      rw (v, o) (subst (λ (k : List ℕ). AreCells value odd k) c.deref.ensures.value c.write.ensures.cells),
      λ even j. ap (λ (w : List ℕ). bit_in w j) o
          ∙ c.write.ensures.even (λ k. ap (λ (w : List ℕ). bit_in w k) c.deref_mut-2.ensures.value ∙ c.self.invariant.1 even k) j,
    )

pub returns : goal.returns
returns c =
    let value = c.write.new.value in
    let odd = c.write.new.odd in
    let v = with_items_is c.self.inside.value value (omega arith) in
    let o = with_items_is c.self.inside.odd odd (omega arith) in
    (λ x. plain_cells (v x) (o x) c.self.inside.counted.items)
    ∙ ap (plain_cells value odd) (sym c.deref.ensures.value)
    ∙ c.write.ensures.written
    ∙ (λ x. slice_set (plain_cells (c.deref_mut.ensures.value x) (c.deref_mut-2.ensures.value x) (c.deref.ensures.value x)) c.args.i (bit c.args.on))
    ∙ ap (λ (l : List ℕ). slice_set l c.args.i (bit c.args.on)) c.self.view_is
