use Rattle.std.proofs.Common.{◌≡◌, ℕ, length, map, ap, ◌∙◌, subst, arith}
use Rattle.std.specs.List.{range_with_len}
use Rattle.ps_model.specs.Blocks.{block, safe_output}
use Rattle.ps_machine.specs.Bytes.{bit}
use Rattle.ps_eqvm.specs.LowBits.{AreLowBits}
use Rattle.ps_eqvm.proofs.LowBits.{one_bit, byte_bit}
use Rattle.ps_eqvm.proofs.outputs.safe_outputs.Goals as goal

pub returns-in-1 : goal.returns-in-1
returns-in-1 c =
    let a = c.args in
    let f = safe_output a.kind a.code a.mode in
    let one : 1 ≡ length (block a.kind).outputs = omega (arith, c.in-1.is, c.requires.count) in
    subst (λ (n : ℕ). AreLowBits (map f (range_with_len 0 n)) c.from.result) one
    (one_bit (f 0) c.from.result (c.from.ensures ∙ byte_bit c.safe_output.result ∙ ap bit c.safe_output.ensures))
