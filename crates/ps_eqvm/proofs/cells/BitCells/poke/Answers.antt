use Rattle.std.proofs.Common.{ℕ, List, ap, ◌∙◌, arith}
use Rattle.std.specs.Prelude.{slice_set}
use Rattle.std.proofs.lemmas.List.{with_items_is}
use Rattle.ps_eqvm.specs.Bits.{plain_cells}
use Rattle.ps_eqvm.proofs.OneBit.{cell_at}
use Rattle.ps_eqvm.proofs.cells.BitCells.poke.Goals as goal

pub write_odd-requires-clause-cells : goal.write_odd-requires-clause-cells
write_odd-requires-clause-cells c =
    rw (c.deref_mut.ensures.value, c.deref_mut-then-byte-gt1.ensures.value, c.deref_mut-then-byte-gt1-2.ensures.value) c.self.invariant.0

pub write_odd-requires-clause-within : goal.write_odd-requires-clause-within
write_odd-requires-clause-within c =
    rw c.deref_mut-then-byte-gt1-2.ensures.value ((cell_at c.self.inside.value.items c.self.inside.odd.items c.self.inside.counted.items c.args.self.now c.args.i c.self.view_is c.requires).0)

pub invariant_of-self : goal.invariant_of-self
invariant_of-self c =
    let v = with_items_is c.self.inside.value c.write_odd.new.value (omega arith) in
    let o = with_items_is c.self.inside.odd c.write_odd.new.odd (omega arith) in
    let k = with_items_is c.self.inside.counted c.write_odd.new.counted (omega arith) in
    (rw (v, o, k) c.write_odd.ensures.cells, λ even. absurd cc)

pub returns-then-byte-gt1 : goal.returns-then-byte-gt1
returns-then-byte-gt1 c =
    let v = with_items_is c.self.inside.value c.write_odd.new.value (omega arith) in
    let o = with_items_is c.self.inside.odd c.write_odd.new.odd (omega arith) in
    let k = with_items_is c.self.inside.counted c.write_odd.new.counted (omega arith) in
    (λ x. plain_cells (v x) (o x) (k x))
    ∙ c.write_odd.ensures.written
    ∙ (λ x. slice_set (plain_cells (c.deref_mut.ensures.value x) (c.deref_mut-then-byte-gt1.ensures.value x) (c.deref_mut-then-byte-gt1-2.ensures.value x)) c.args.i c.args.byte)
    ∙ ap (λ (l : List ℕ). slice_set l c.args.i c.args.byte) c.self.view_is
