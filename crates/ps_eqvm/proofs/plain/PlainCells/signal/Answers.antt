use Rattle.std.proofs.Common.{◌+◌, ap, ◌∙◌, sym}
use Rattle.std.specs.Prelude.{slice_index}
use Rattle.ps_eqvm.specs.declared.layout.TheConstants.{WORK_CELLS}
use Rattle.ps_eqvm.specs.Bits.{truth_of}
use Rattle.ps_eqvm.specs.Plain.{Plain}
use Rattle.ps_eqvm.proofs.Poking.{signal_at}
use Rattle.ps_eqvm.proofs.plain.PlainCells.signal.Goals as goal

pub returns : goal.returns
returns c =
    let s = c.args.s in
    c.at.ensures ∙ ap (λ (p : Plain). truth_of (slice_index p.cells (WORK_CELLS + s))) c.self.view_is ∙ ap truth_of (sym (signal_at c.args.self.now s c.requires))
