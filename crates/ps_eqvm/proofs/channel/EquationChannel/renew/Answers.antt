use Rattle.std.proofs.Common.{◌≡◌, ◌+◌, ◌*◌, ap, ◌∙◌, ℕ, length, replicate, arith}
use Rattle.ps_eqvm.specs.declared.layout.TheConstants.{WORK_AT, SIGNALS_AT}
use Rattle.ps_eqvm.specs.Plain.{laid_out}
use Rattle.ps_machine.specs.StoredChannel.{Stored}
use Rattle.ps_eqvm.specs.Channel.{blank_b}
use Rattle.ps_eqvm.proofs.Poking.{blank_laid}
use Rattle.ps_eqvm.proofs.channel.EquationChannel.renew.Goals as goal

pub returns : goal.returns
returns c =
    let s = c.self.inside in
    let sized = c.self.invariant.0 in
    let count : WORK_AT + (length s.plain.cells + length s.plain.blocks) ≡ SIGNALS_AT + s.sizes.signals + 16 * s.sizes.instances = omega (arith, sized.cells, sized.blocks) in
    let cells = ap laid_out c.clear.ensures ∙ blank_laid (length s.plain.cells) (length s.plain.blocks) ∙ ap (λ (n : ℕ). replicate n 255) count in
    let code = c.copy_from_slice.ensures.items ∙ c.as_slice.ensures.bytes in
    (λ x. record { sizes = s.sizes; code = code x; cells = cells x })
    ∙ ap (λ (v : Stored). record { sizes = v.sizes; code = c.args.image.now; cells = blank_b v.sizes }) c.self.view_is
