use Rattle.std.proofs.Common.{ℕ, Bool, length, refl, ap, ◌∙◌, arith}
use Rattle.std.specs.Prelude.{◌==◌, slice_set}
use Rattle.ps_machine.specs.Reporting.{output_byte}
use Rattle.ps_machine.proofs.Walks.{length_part, set_more}
use Rattle.ps_stackvm.specs.declared.layout.TheConstants.{SIGNALS_AT}
use Rattle.ps_stackvm.proofs.report.write_outputs.Goals as goal

pub set-requires : goal.set-requires
set-requires c =
    let is : ℕ → Bool = λ j. output_byte c.args.sizes.now SIGNALS_AT c.args.cells.now j == 1 in
    let size = length_part is c.args.outs.now c.loop-j.j (omega arith) in
    let same = ap length c.loop-j.invariant in
    omega arith

pub loop-j-preserved : goal.loop-j-preserved
loop-j-preserved c =
    let is : ℕ → Bool = λ j. output_byte c.args.sizes.now SIGNALS_AT c.args.cells.now j == 1 in
    c.set.ensures ∙ ap (λ l. slice_set l c.loop-j.j (is c.loop-j.j)) c.loop-j.invariant
    ∙ set_more is c.args.outs.now c.loop-j.j (is c.loop-j.j) (omega arith) refl
