use Rattle.ps_stackvm.specs.Stands.{StandsA}
use Rattle.ps_eqvm.specs.Stands.{StandsB}
use Rattle.ps_world.specs.Whole.{machines_in}
use Rattle.ps_world.proofs.Built.{keeps_a, keeps_b, sized_for_a, sized_for_b}
use Rattle.ps_world.proofs.Run.{runs_are_right}
use Rattle.ps_world.proofs.laws.runs_are_right.Goals as goal

pub returns : goal.returns
returns c accepted setup built =
    let net = c.args.app.now in
    runs_are_right net (machines_in setup) (StandsA net) (StandsB net)
    (keeps_a net setup built (c.stack_code_keeps_the_meaning.ensures.keeps accepted)) (keeps_b net setup built (c.equation_code_keeps_the_meaning.ensures.keeps accepted))
    (sized_for_a net setup built) (sized_for_b net setup built)
