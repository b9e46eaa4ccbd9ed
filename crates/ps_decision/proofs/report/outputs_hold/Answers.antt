use Rattle.std.proofs.Common.{ℕ, Bool, ◌-◌, sym, ◌∙◌, arith}
use Rattle.std.specs.Prelude.{not}
use Rattle.ps_machine.specs.Bytes.{is_no_bit}
use Rattle.ps_machine.specs.Reporting.{output_byte}
use Rattle.ps_machine.proofs.Walks.{not_all}
use Rattle.ps_decision.specs.declared.layout.TheConstants.{SIGNALS_AT}
use Rattle.ps_decision.proofs.Backward.{all_before}
use Rattle.ps_decision.proofs.report.outputs_hold.Goals as goal

pub returns-then-not-holds : goal.returns-then-not-holds
returns-then-not-holds c =
    let holds : ℕ → Bool = λ j. not (is_no_bit (output_byte c.args.sizes.now SIGNALS_AT c.args.cells.now j)) in
    sym (not_all holds c.args.sizes.now.outputs (c.loop-left.left - 1) (omega (arith, c.loop-left-test.true, c.loop-left.invariant.within)) (sym c.holds.ensures ∙ c.if-not-holds.true))

pub loop-left-preserved : goal.loop-left-preserved
loop-left-preserved c =
    let holds : ℕ → Bool = λ j. not (is_no_bit (output_byte c.args.sizes.now SIGNALS_AT c.args.cells.now j)) in
    record {
      within = omega (arith, c.loop-left.invariant.within);
      hold = all_before holds c.args.sizes.now.outputs c.loop-left.left c.loop-left-test.true c.loop-left.invariant.within c.loop-left.invariant.hold
          (sym c.holds.ensures ∙ c.if-not-holds.false);
    }
