use Rattle.std.proofs.Common.{◌+◌, ◌≤◌, length, ◌∙◌, arith}
use Rattle.ps_eqvm.specs.Rows.{operand_of}
use Rattle.ps_eqvm.specs.Acting.{target_of, byte_of}
use Rattle.ps_eqvm.specs.Gates.{after_gate}
use Rattle.ps_eqvm.proofs.Blocks.{gate_whole}
use Rattle.ps_eqvm.proofs.turn.turn_gate.Goals as goal

pub returns : goal.returns
returns c =
    let a = c.args in
    let whole : a.at + 5 ≤ length a.code.now = omega arith in
    c.set_or_join.ensures
    ∙ (λ x. after_gate a.how (target_of (operand_of a.signals (c.number_in_two-target.ensures x))) (byte_of a.plain.now.cells (operand_of a.signals (c.number_in_two-operand.ensures x))) (a.at + 5) a.plain.now)
    ∙ gate_whole a.how a.signals a.instances a.at _ _ a.code.now a.plain.now c.requires.here whole
