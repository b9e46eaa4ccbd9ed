use Rattle.std.proofs.Common.{◌≡◌, ◌+◌, ◌*◌, ℕ, replicate, ap, ◌∙◌, arith}
use Rattle.ps_model.specs.declared.sizes.Sizes.{Sizes}
use Rattle.ps_eqvm.specs.declared.layout.TheConstants.{WORK_AT, WORK_CELLS, SIGNALS_AT}
use Rattle.ps_eqvm.specs.Plain.{laid_out}
use Rattle.ps_eqvm.specs.Channel.{blank_b}
use Rattle.ps_eqvm.proofs.Poking.{blank_laid}
use Rattle.ps_eqvm.proofs.channel.EquationChannel.new.Goals as goal

pub returns : goal.returns
returns c =
    let z = c.in_ok-sizes.sizes in
    let count : WORK_AT + (WORK_CELLS + z.signals + 16 * z.instances) ≡ SIGNALS_AT + z.signals + 16 * z.instances = omega arith in
    let cells = ap laid_out c.in_ok-plain.ensures ∙ blank_laid (WORK_CELLS + z.signals) (16 * z.instances) ∙ ap (λ (n : ℕ). replicate n 255) count in
    let code = c.in_ok-code.ensures.items ∙ c.as_slice.ensures.bytes in
    (λ x. record { sizes = z; code = code x; cells = cells x })
    ∙ ap (λ (s : Sizes). record { sizes = s; code = c.args.image.now; cells = blank_b s }) c.in_ok-sizes.ensures
