use Rattle.std.proofs.Common.{◌+◌, ap, ◌∙◌, sym, ℕ}
use Rattle.std.specs.Prelude.{slice_index, ◌==◌}
use Rattle.ps_eqvm.specs.declared.layout.TheConstants.{WORK_CELLS}
use Rattle.ps_eqvm.specs.Plain.{Plain}
use Rattle.ps_eqvm.proofs.Poking.{signal_at}
use Rattle.ps_eqvm.proofs.plain.PlainCells.is_on.Goals as goal

pub returns : goal.returns
returns c =
    let s = c.args.s in
    c.is_one.ensures ∙ ap (λ (p : Plain). slice_index p.cells (WORK_CELLS + s) == 1) c.self.view_is ∙ ap (λ (n : ℕ). n == 1) (sym (signal_at c.args.self.now s c.requires))
