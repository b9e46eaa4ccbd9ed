use Rattle.std.proofs.Common.{ap, ◌∙◌, replicate, sym, ℕ, List}
use Rattle.std.proofs.lemmas.List.{length-replicate}
use Rattle.ps_eqvm.specs.Bits.{bit_in, plain_cells, words_for}
use Rattle.ps_eqvm.proofs.KeptBits.{zero_bit, zero_cells, zeros_are_cells}
use Rattle.ps_eqvm.proofs.cells.BitCells.all_zero.Goals as goal

pub returns : goal.returns
returns c =
    let v = c.in_ok-value.ensures.items_if_clones_equal (λ y h. h) in
    let o = c.in_ok-odd.ensures.items_if_clones_equal (λ y h. h) in
    let k = c.in_ok-counted.ensures.items_if_clones_equal (λ y h. h) in
    (λ x. plain_cells (v x) (o x) (k x)) ∙ zero_cells _ _ (replicate c.args.count 0) ∙ ap (λ (n : ℕ). replicate n 0) (length-replicate c.args.count 0)

pub invariant_of-result : goal.invariant_of-result
invariant_of-result c =
    let v = c.in_ok-value.ensures.items_if_clones_equal (λ y h. h) in
    let o = c.in_ok-odd.ensures.items_if_clones_equal (λ y h. h) in
    let k = c.in_ok-counted.ensures.items_if_clones_equal (λ y h. h) in
    let words = ap words_for (sym (length-replicate c.args.count 0)) in (
      rw (v, o, k) (zeros_are_cells _ _ (replicate c.args.count 0) words words),
      λ even j. ap (λ (w : List ℕ). bit_in w j) o ∙ zero_bit _ j,
    )
