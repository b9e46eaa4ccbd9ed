use Rattle.std.proofs.Common.{◌≡◌, ℕ, ◌+◌, ◌/◌, ◌^◌, ◌<◌, ◌≤◌, Bool, false, List, length, ap, ◌∙◌, arith, get_or}
use Rattle.std.specs.Prelude.{map, ◌==◌, bit_and}
use Rattle.std.proofs.lemmas.List.{length-set, take_all}
use Rattle.std.proofs.lemmas.Nat.Bits.{shr_and_one}
use Rattle.ps_machine.specs.Bytes.{bit, replaced}
use Rattle.ps_machine.proofs.Places.{replaced_bit}
use Rattle.ps_eqvm.proofs.LowBits.{bit_again}
use Rattle.ps_eqvm.proofs.cells.BitCells.put_each.Goals as goal

pub loop-j-preserved : goal.loop-j-preserved
loop-j-preserved c =
    let a = c.args in
    let j = c.loop-j.j in
    record {
      size = ap length c.put.ensures ∙ length-set c.loop-j.self (a.i + j) _ ∙ c.loop-j.invariant.size;
      written = λ values many low.
          let within : j < length values = omega (arith, many) in
          let room : a.i + length values ≤ length a.self.now = omega (arith, many, c.requires.room) in
          let is : bit (bit_and (a.number / 2 ^ j) 1 == 1) ≡ bit (get_or values j false) =
          ap (λ (n : ℕ). bit (n == 1)) (shr_and_one a.number j ∙ low.each j within) ∙ bit_again (get_or values j false) in
          c.put.ensures ∙ replaced_bit c.loop-j.self a.self.now a.i j _ values room within (c.loop-j.invariant.written values many low) is;
    }

pub put-requires : goal.put-requires
put-requires c = omega (arith, c.loop-j.invariant.size, c.requires.room)

pub returns : goal.returns
returns c = λ values many low.
    let whole : length values ≤ c.loop-j.j = omega (arith, many) in
    c.loop-j.invariant.written values many low ∙ ap (λ (l : List Bool). replaced c.args.self.now c.args.i (map bit l)) (take_all c.loop-j.j values whole)
