use Rattle.std.proofs.Common.{ℕ, length, ◌-◌, ap, ◌∙◌, sym, arith}
use Rattle.std.specs.Prelude.{slice_set}
use Rattle.ps_model.specs.declared.report.Diag.{Diag}
use Rattle.ps_machine.specs.Reporting.{diag_at}
use Rattle.ps_decision.specs.declared.layout.TheConstants.{SIGNALS_AT}
use Rattle.ps_decision.proofs.Backward.{set_before, length_before}
use Rattle.ps_decision.proofs.report.write_diags.Goals as goal

pub set-requires : goal.set-requires
set-requires c =
    let is : ℕ → Diag = diag_at c.args.sizes.now SIGNALS_AT c.args.cells.now in
    let size = length_before is c.args.diags.now c.args.sizes.now.instances c.loop-left.left c.loop-left.invariant.within (sym c.requires.size) in
    let same = ap length c.loop-left.invariant.written in
    omega (arith, c.loop-left-test.true, c.loop-left.invariant.within)

pub loop-left-preserved : goal.loop-left-preserved
loop-left-preserved c =
    let is : ℕ → Diag = diag_at c.args.sizes.now SIGNALS_AT c.args.cells.now in
    let left = c.loop-left.left in
    record {
      within = omega (arith, c.loop-left.invariant.within);
      written = c.set.ensures ∙ ap (λ l. slice_set l (left - 1) c.diag.result) c.loop-left.invariant.written
          ∙ set_before is c.args.diags.now c.args.sizes.now.instances left c.diag.result c.loop-left-test.true c.loop-left.invariant.within (sym c.requires.size) c.diag.ensures;
    }
