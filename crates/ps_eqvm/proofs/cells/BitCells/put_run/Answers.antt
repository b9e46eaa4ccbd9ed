use Rattle.std.proofs.Common.{ℕ, List, length, ap, ◌∙◌, sym, subst, arith}
use Rattle.std.specs.Prelude.{map}
use Rattle.std.proofs.lemmas.List.{with_items_is}
use Rattle.ps_machine.specs.Bytes.{bit, replaced}
use Rattle.ps_eqvm.specs.Bits.{AreCells, bit_in, plain_cells}
use Rattle.ps_eqvm.proofs.KeptBits.{length-cells}
use Rattle.ps_eqvm.proofs.cells.BitCells.put_run.Goals as goal

pub write_run-requires-clause-cells : goal.write_run-requires-clause-cells
write_run-requires-clause-cells c =
    rw (c.deref_mut.ensures.value, c.deref_mut-then-i-count-le64.ensures.value, c.deref.ensures.value) c.self.invariant.0

pub invariant_of-self : goal.invariant_of-self
invariant_of-self c =
    let value = c.write_run.new.value in
    let odd = c.write_run.new.odd in
    let v = with_items_is c.self.inside.value value (omega arith) in
    let o = with_items_is c.self.inside.odd odd (omega arith) in (
      rw (v, o) (subst (λ (k : List ℕ). AreCells value odd k) c.deref.ensures.value c.write_run.ensures.cells),
      λ even j. ap (λ (w : List ℕ). bit_in w j) o
          ∙ c.write_run.ensures.even (λ k. ap (λ (w : List ℕ). bit_in w k) c.deref_mut-then-i-count-le64.ensures.value ∙ c.self.invariant.1 even k) j,
    )

pub write_run-requires-clause-room : goal.write_run-requires-clause-room
write_run-requires-clause-room c =
    let count = length-cells c.self.inside.value.items c.self.inside.odd.items c.self.inside.counted.items in
    let size = ap length c.self.view_is in
    rw c.deref.ensures.value (omega (arith, count, size, c.requires.room))

pub returns-then-i-count-le64 : goal.returns-then-i-count-le64
returns-then-i-count-le64 c = λ values many low.
    let value = c.write_run.new.value in
    let odd = c.write_run.new.odd in
    let v = with_items_is c.self.inside.value value (omega arith) in
    let o = with_items_is c.self.inside.odd odd (omega arith) in
    (λ x. plain_cells (v x) (o x) c.self.inside.counted.items)
    ∙ ap (plain_cells value odd) (sym c.deref.ensures.value)
    ∙ c.write_run.ensures.written values many low
    ∙ (λ x. replaced (plain_cells (c.deref_mut.ensures.value x) (c.deref_mut-then-i-count-le64.ensures.value x) (c.deref.ensures.value x)) c.args.i (map bit values))
    ∙ ap (λ (l : List ℕ). replaced l c.args.i (map bit values)) c.self.view_is
