use Rattle.std.proofs.Common.{arith, List, ℕ, length, ap, ◌∙◌, subst}
use Rattle.std.specs.Prelude.{◌==◌}
use Rattle.ps_eqvm.specs.Bits.{bit_in, AreBitsOf}
use Rattle.ps_eqvm.proofs.KeptBits.{value_bits}
use Rattle.ps_eqvm.proofs.OneBit.{cell_at}
use Rattle.ps_eqvm.proofs.cells.BitCells.is_one.Goals as goal

pub bit_at-requires : goal.bit_at-requires
bit_at-requires c =
    let low = (cell_at c.self.inside.value.items c.self.inside.odd.items c.self.inside.counted.items c.args.self.now c.args.i c.self.view_is c.requires).0 in
    let words = ap length c.deref.ensures.value in
    omega (arith, low, words, c.self.invariant.0.value_words)

pub returns : goal.returns
returns c =
    let v = c.self.inside.value.items in
    let are = subst (λ (l : List ℕ). AreBitsOf (λ byte. byte == 1) l v) c.self.view_is (value_bits v c.self.inside.odd.items c.self.inside.counted.items c.self.invariant.0) in
    c.bit_at.ensures ∙ ap (λ (l : List ℕ). bit_in l c.args.i == 1) c.deref.ensures.value ∙ are.each c.args.i c.requires
