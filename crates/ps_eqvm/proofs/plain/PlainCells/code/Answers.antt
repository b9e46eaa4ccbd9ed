use Rattle.std.proofs.Common.{◌*◌, ap, ◌∙◌, sym}
use Rattle.ps_machine.specs.Bytes.{be2}
use Rattle.ps_eqvm.specs.Plain.{Plain}
use Rattle.ps_eqvm.proofs.Poking.{code_at}
use Rattle.ps_eqvm.proofs.plain.PlainCells.code.Goals as goal

pub returns : goal.returns
returns c =
    let j = 16 * c.args.i in
    c.code.ensures ∙ ap (λ (p : Plain). be2 p.blocks j) c.self.view_is ∙ sym (code_at c.args.self.now c.args.signals j c.requires.cells)
