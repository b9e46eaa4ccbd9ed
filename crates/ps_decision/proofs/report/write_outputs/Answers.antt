use Rattle.std.proofs.Common.{ℕ, Bool, length, ◌-◌, ap, ◌∙◌, sym, arith}
use Rattle.std.specs.Prelude.{◌==◌, slice_set}
use Rattle.ps_machine.specs.Reporting.{output_byte}
use Rattle.ps_decision.specs.declared.layout.TheConstants.{SIGNALS_AT}
use Rattle.ps_decision.proofs.Backward.{set_before, length_before}
use Rattle.ps_decision.proofs.report.write_outputs.Goals as goal

pub set-requires : goal.set-requires
set-requires c =
    let is : ℕ → Bool = λ j. output_byte c.args.sizes.now SIGNALS_AT c.args.cells.now j == 1 in
    let size = length_before is c.args.outs.now c.args.sizes.now.outputs c.loop-left.left c.loop-left.invariant.within (sym c.requires.size) in
    let same = ap length c.loop-left.invariant.written in
    omega (arith, c.loop-left-test.true, c.loop-left.invariant.within)

pub loop-left-preserved : goal.loop-left-preserved
loop-left-preserved c =
    let is : ℕ → Bool = λ j. output_byte c.args.sizes.now SIGNALS_AT c.args.cells.now j == 1 in
    let left = c.loop-left.left in
    record {
      within = omega (arith, c.loop-left.invariant.within);
      written = c.set.ensures ∙ ap (λ l. slice_set l (left - 1) c.is_on.result) c.loop-left.invariant.written
          ∙ set_before is c.args.outs.now c.args.sizes.now.outputs left c.is_on.result c.loop-left-test.true c.loop-left.invariant.within (sym c.requires.size) c.is_on.ensures;
    }
