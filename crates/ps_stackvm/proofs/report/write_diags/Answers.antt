use Rattle.std.proofs.Common.{ℕ, length, ap, ◌∙◌, arith}
use Rattle.std.specs.Prelude.{slice_set}
use Rattle.ps_model.specs.declared.report.Diag.{Diag}
use Rattle.ps_machine.specs.Reporting.{diag_at}
use Rattle.ps_machine.proofs.Walks.{length_part, set_more}
use Rattle.ps_stackvm.specs.declared.layout.TheConstants.{SIGNALS_AT}
use Rattle.ps_stackvm.proofs.report.write_diags.Goals as goal

pub set-requires : goal.set-requires
set-requires c =
    let is : ℕ → Diag = diag_at c.args.sizes.now SIGNALS_AT c.args.cells.now in
    let size = length_part is c.args.diags.now c.loop-i.i (omega arith) in
    let same = ap length c.loop-i.invariant in
    omega arith

pub loop-i-preserved : goal.loop-i-preserved
loop-i-preserved c =
    let is : ℕ → Diag = diag_at c.args.sizes.now SIGNALS_AT c.args.cells.now in
    c.set.ensures ∙ ap (λ l. slice_set l c.loop-i.i c.diag.result) c.loop-i.invariant
    ∙ set_more is c.args.diags.now c.loop-i.i c.diag.result (omega arith) c.diag.ensures
