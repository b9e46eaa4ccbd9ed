use Rattle.std.proofs.Common.{◌≡◌, ℕ, Bool, length, map, ap, ◌∙◌, subst, arith}
use Rattle.std.specs.Prelude.{max}
use Rattle.std.specs.List.{range_with_len}
use Rattle.std.specs.Int.{bit_at}
use Rattle.ps_model.specs.Blocks.{block, safe_output}
use Rattle.ps_machine.specs.Bytes.{bit}
use Rattle.ps_eqvm.specs.LowBits.{AreLowBits}
use Rattle.ps_eqvm.proofs.LowBits.{no_bits, one_more}
use Rattle.ps_eqvm.proofs.outputs.each_safe_output.Goals as goal

pub loop-j-init : goal.loop-j-init
loop-j-init c = no_bits

pub loop-j-preserved : goal.loop-j-preserved
loop-j-preserved c =
    let a = c.args in
    one_more (safe_output a.kind a.code a.mode) c.loop-j.j c.loop-j.bits c.with_bit-bits.result c.loop-j.invariant
    (c.with_bit-bits.ensures.same ∙ ap (λ (on : Bool). max (bit_at c.loop-j.bits c.loop-j.j) (bit on)) c.safe_output.ensures) c.with_bit-bits.ensures.others

pub returns : goal.returns
returns c =
    let a = c.args in
    let all : c.loop-j.j ≡ length (block a.kind).outputs = omega (arith, c.requires.count) in
    subst (λ (n : ℕ). AreLowBits (map (safe_output a.kind a.code a.mode) (range_with_len 0 n)) c.loop-j.bits) all c.loop-j.invariant
