use Rattle.std.proofs.Common.{◌∙◌, ◌++◌, length, refl, ap}
use Rattle.std.specs.Prelude.{List, ℕ}
use Rattle.ps_model.specs.Budgets.{turns_a, turns_b}
use Rattle.ps_model.specs.declared.channel.Channel.TheVariants.{B}
use Rattle.ps_eqvm.specs.Channel.{blank_b}
use Rattle.ps_report.specs.Image.{image_part}
use Rattle.ps_stackvm.specs.Code.{code_a}
use Rattle.ps_eqvm.specs.Code.{code_b}
use Rattle.ps_world.specs.Whole.{Setup}
use Rattle.ps_top.proofs.imaging.both_parts.Goals as goal

pub returns : goal.returns
returns c =
    let net = c.args.app.now in
    let setup : Setup = record { sizes = c.in_ok-sizes.sizes; image_a = code_a net; image_b = code_b net; budget_a = turns_a net; budget_b = turns_b net } in
    let first : List ℕ = c.in_ok-text.text in
    let second = image_part B (code_b net) (length (blank_b setup.sizes)) (turns_b net) in (
      setup,
      record { sizes = c.in_ok-sizes.ensures; image_a = refl; image_b = refl; budget_a = refl; budget_b = refl },
      c.in_ok-extend_from_slice.ensures ∙ ap (λ (l : List ℕ). first ++ l) (c.as_slice.ensures ∙ c.in_ok-other.ensures) ∙ ap (λ (l : List ℕ). l ++ second) c.in_ok-text.ensures,
    )
