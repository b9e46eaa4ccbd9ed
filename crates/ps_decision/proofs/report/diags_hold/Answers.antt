use Rattle.std.proofs.Common.{ℕ, Bool, ◌-◌, sym, ◌∙◌, arith}
use Rattle.std.specs.Prelude.{not, ◌&&◌}
use Rattle.ps_machine.specs.Bytes.{is_no_bit}
use Rattle.ps_machine.specs.Reporting.{ready_byte, error_byte}
use Rattle.ps_machine.proofs.Walks.{not_all}
use Rattle.ps_decision.specs.declared.layout.TheConstants.{SIGNALS_AT}
use Rattle.ps_decision.proofs.Backward.{all_before}
use Rattle.ps_decision.proofs.report.diags_hold.Goals as goal

pub returns-then-not-diag_holds : goal.returns-then-not-diag_holds
returns-then-not-diag_holds c =
    let holds : ℕ → Bool =
    λ i. not (is_no_bit (ready_byte c.args.sizes.now SIGNALS_AT c.args.cells.now i)) && not (is_no_bit (error_byte c.args.sizes.now SIGNALS_AT c.args.cells.now i)) in
    sym (not_all holds c.args.sizes.now.instances (c.loop-left.left - 1) (omega (arith, c.loop-left-test.true, c.loop-left.invariant.within)) (sym c.diag_holds.ensures ∙ c.if-not-diag_holds.true))

pub loop-left-preserved : goal.loop-left-preserved
loop-left-preserved c =
    let holds : ℕ → Bool =
    λ i. not (is_no_bit (ready_byte c.args.sizes.now SIGNALS_AT c.args.cells.now i)) && not (is_no_bit (error_byte c.args.sizes.now SIGNALS_AT c.args.cells.now i)) in
    record {
      within = omega (arith, c.loop-left.invariant.within);
      hold = all_before holds c.args.sizes.now.instances c.loop-left.left c.loop-left-test.true c.loop-left.invariant.within c.loop-left.invariant.hold
          (sym c.diag_holds.ensures ∙ c.if-not-diag_holds.false);
    }
