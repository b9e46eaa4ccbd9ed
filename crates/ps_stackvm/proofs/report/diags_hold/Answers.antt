use Rattle.std.proofs.Common.{ℕ, Bool, sym, ◌∙◌}
use Rattle.std.specs.Prelude.{not, ◌&&◌}
use Rattle.ps_machine.specs.Bytes.{is_no_bit}
use Rattle.ps_machine.specs.Reporting.{ready_byte, error_byte}
use Rattle.ps_machine.proofs.Walks.{all_more, not_all}
use Rattle.ps_stackvm.specs.declared.layout.TheConstants.{SIGNALS_AT}
use Rattle.ps_stackvm.proofs.report.diags_hold.Goals as goal

pub returns-then-not-diag_holds : goal.returns-then-not-diag_holds
returns-then-not-diag_holds c =
    let holds : ℕ → Bool = λ i. not (is_no_bit (ready_byte c.args.sizes.now SIGNALS_AT c.args.cells.now i)) && not (is_no_bit (error_byte c.args.sizes.now SIGNALS_AT c.args.cells.now i)) in
    sym (not_all holds c.args.sizes.now.instances c.loop-i.i c.loop-i-test.true (sym c.diag_holds.ensures ∙ c.if-not-diag_holds.true))

pub loop-i-preserved : goal.loop-i-preserved
loop-i-preserved c =
    let holds : ℕ → Bool = λ i. not (is_no_bit (ready_byte c.args.sizes.now SIGNALS_AT c.args.cells.now i)) && not (is_no_bit (error_byte c.args.sizes.now SIGNALS_AT c.args.cells.now i)) in
    all_more holds c.loop-i.i c.loop-i.invariant (sym c.diag_holds.ensures ∙ c.if-not-diag_holds.false)
