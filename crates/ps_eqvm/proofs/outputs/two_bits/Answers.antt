use Rattle.std.proofs.Common.{◌*◌, ◌%◌, ◌^◌, ◌∙◌}
use Rattle.std.specs.Prelude.{bit_or}
use Rattle.ps_eqvm.proofs.LowBits.{two_are, byte_bit}
use Rattle.ps_eqvm.proofs.outputs.two_bits.Goals as goal

pub returns : goal.returns
returns c =
    let a = c.args.first in
    let b = c.args.second in
    two_are a b _ (λ x. bit_or ((c.from.ensures ∙ byte_bit a) x) ((c.from-2.ensures ∙ byte_bit b) x * 2 % 2 ^ 32))
