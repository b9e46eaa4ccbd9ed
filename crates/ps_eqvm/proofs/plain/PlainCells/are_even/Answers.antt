use Rattle.std.proofs.Common.{◌+◌, ◌<◌, length, ap, ◌∙◌, subst, arith}
use Rattle.std.specs.Prelude.{slice_index}
use Rattle.std.proofs.lemmas.Bool.{le-ltb}
use Rattle.ps_machine.specs.Bytes.{is_no_bit}
use Rattle.ps_eqvm.specs.declared.layout.TheConstants.{WORK_CELLS}
use Rattle.ps_eqvm.specs.Bits.{AreTruths}
use Rattle.ps_eqvm.specs.Plain.{Plain}
use Rattle.ps_eqvm.proofs.Poking.{signal_at}
use Rattle.ps_eqvm.proofs.plain.PlainCells.are_even.Goals as goal

pub returns-clause-cells : goal.returns-clause-cells
returns-clause-cells c = λ is. subst (λ (q : Plain). AreTruths q.cells) c.self.view_is (c.are_even.ensures is)

pub returns-clause-signals : goal.returns-clause-signals
returns-clause-signals c = λ signals sized is s low.
    let p = c.args.self.now in
    let within : WORK_CELLS + s < length p.cells = omega (arith, low, sized) in
    let small = subst (λ (q : Plain). AreTruths q.cells) c.self.view_is (c.are_even.ensures is) (WORK_CELLS + s) within in
    ap is_no_bit (signal_at p s within) ∙ le-ltb 1 (slice_index p.cells (WORK_CELLS + s)) (omega (arith, small))
