use Rattle.ps_stackvm.specs.Stands.{StandsA}
use Rattle.ps_eqvm.specs.Stands.{StandsB}
use Rattle.ps_world.specs.Whole.{machines_in}
use Rattle.ps_world.proofs.Built.{keeps_a, keeps_b, sized_for_a, sized_for_b}
use Rattle.ps_world.proofs.Run.{quiet_runs_release}
use Rattle.ps_world.proofs.laws.quiet_runs_release.Goals as goal

pub returns : goal.returns
returns c accepted setup built =
    let net = c.args.app.now in
    quiet_runs_release net (machines_in setup) (StandsA net) (StandsB net)
    (keeps_a net setup built (c.stack_code_keeps_the_meaning.ensures.keeps accepted)) (keeps_b net setup built (c.equation_code_keeps_the_meaning.ensures.keeps accepted))
    (sized_for_a net setup built) (sized_for_b net setup built)
