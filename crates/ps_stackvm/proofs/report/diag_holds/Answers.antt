use Rattle.std.proofs.Common.{◌+◌, ◌-◌, ℕ, ap, ◌∙◌, arith}
use Rattle.std.specs.Prelude.{◌==◌, ◌&&◌, not, bit_and, slice_index}
use Rattle.ps_machine.specs.Bytes.{is_no_bit}
use Rattle.ps_stackvm.specs.declared.layout.TheConstants.{SIGNALS_AT}
use Rattle.ps_stackvm.proofs.Pairs.{pair_holds}
use Rattle.ps_stackvm.proofs.report.diag_holds.Goals as goal

pub returns : goal.returns
returns c =
    let at : ℕ → ℕ = λ s. slice_index c.args.cells.now (SIGNALS_AT + s) in
    let past = c.past_outputs-past.result in
    ap (λ n. bit_and n 65278 == 0) c.from_le_bytes.ensures
    ∙ pair_holds (at (past - 2)) (at (past - 1)) (omega (arith, c.type_inv.cells (SIGNALS_AT + (past - 2)))) (omega (arith, c.type_inv.cells (SIGNALS_AT + (past - 1))))
    ∙ ap (λ p. not (is_no_bit (at (p - 2))) && not (is_no_bit (at (p - 1)))) c.past_outputs-past.ensures.value
