use Rattle.std.proofs.Common.{arith, ap, ◌∙◌, sym, length, replicate, ℕ, List}
use Rattle.std.proofs.lemmas.List.{with_items_is}
use Rattle.ps_eqvm.specs.Bits.{bit_in, plain_cells}
use Rattle.ps_eqvm.proofs.KeptBits.{zero_bit, zero_cells, zeros_are_cells, length-cells}
use Rattle.ps_eqvm.proofs.cells.BitCells.clear.Goals as goal

pub returns : goal.returns
returns c =
    let v = with_items_is c.self.inside.value c.clear_all.new.words (omega arith) ∙ c.clear_all.ensures in
    let o = with_items_is c.self.inside.odd c.clear_all-2.new.words (omega arith) ∙ c.clear_all-2.ensures in
    let counted = c.self.inside.counted.items in
    (λ x. plain_cells (v x) (o x) counted) ∙ zero_cells _ _ counted
    ∙ ap (λ (n : ℕ). replicate n 0) (sym (length-cells c.self.inside.value.items c.self.inside.odd.items counted) ∙ ap length c.self.view_is)

pub invariant_of-self : goal.invariant_of-self
invariant_of-self c =
    let v = with_items_is c.self.inside.value c.clear_all.new.words (omega arith) ∙ c.clear_all.ensures in
    let o = with_items_is c.self.inside.odd c.clear_all-2.new.words (omega arith) ∙ c.clear_all-2.ensures in
    let is = c.self.invariant.0 in (
      rw (v, o) (zeros_are_cells _ _ c.self.inside.counted.items
          (ap length c.deref_mut.ensures.value ∙ is.value_words) (ap length c.deref_mut-2.ensures.value ∙ is.odd_words)),
      λ even j. ap (λ (w : List ℕ). bit_in w j) o ∙ zero_bit _ j,
    )
