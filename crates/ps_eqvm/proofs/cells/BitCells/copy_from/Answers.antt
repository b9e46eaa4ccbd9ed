use Rattle.std.proofs.Common.{ℕ, List, ap, ◌∙◌}
use Rattle.ps_eqvm.specs.Bits.{bit_in}
use Rattle.ps_eqvm.proofs.cells.BitCells.copy_from.Goals as goal

pub invariant_of-self : goal.invariant_of-self
invariant_of-self c =
    let v = c.copy_from_slice.ensures.items ∙ c.deref.ensures.value in
    let o = c.copy_from_slice-2.ensures.items ∙ c.deref-2.ensures.value in
    let k = c.copy_from_slice-3.ensures.items ∙ c.deref-3.ensures.value in
    (rw (v, o, k) c.other.invariant.0, λ even i. ap (λ (w : List ℕ). bit_in w i) o ∙ c.other.invariant.1 even i)
