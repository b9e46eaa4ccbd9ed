use Rattle.std.proofs.Common.{◌≡◌, ◌-◌, ◌<◌, ap, ◌∙◌, arith}
use Rattle.ps_machine.specs.Progressing.{progress_said}
use Rattle.ps_machine.specs.StoredChannel.{Stored}
use Rattle.ps_eqvm.specs.Channel.{progress_of}
use Rattle.ps_eqvm.proofs.channel.EquationChannel.progress.Goals as goal

pub returns : goal.returns
returns c =
    let byte = c.self.inside.plain.progress in
    let small : byte < 256 = c.sound.ensures.progress in
    let back : byte ≡ 255 - (255 - byte) = omega (arith, small) in
    c.progress_of_byte.ensures ∙ ap progress_said (c.progress.ensures ∙ back ∙ ap (λ (v : Stored). progress_of v.cells) c.self.view_is)
