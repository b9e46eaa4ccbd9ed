use Rattle.ps_world.proofs.Built.{keeps_a, keeps_b}
use Rattle.ps_world.proofs.Quiet.{quiet_worlds_release}
use Rattle.ps_world.proofs.laws.quiet_worlds_release.Goals as goal

pub returns : goal.returns
returns c accepted =
    let net = c.args.app.now in
    quiet_worlds_release net (λ s built.
    (keeps_a net s built (c.stack_code_keeps_the_meaning.ensures.keeps accepted), keeps_b net s built (c.equation_code_keeps_the_meaning.ensures.keeps accepted)))
