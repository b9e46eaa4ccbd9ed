use Rattle.ps_vote.specs.Whole.{machines_in}
use Rattle.ps_vote.proofs.Built.{stands, keeps_in, heals_in, sized_for}
use Rattle.ps_vote.proofs.Run.{heal_runs_are_right}
use Rattle.ps_vote.proofs.laws.heal_runs_are_right.Goals as goal

pub returns : goal.returns
returns c accepted setup built =
    let net = c.args.app.now in
    heal_runs_are_right net (machines_in setup) (stands net)
    (keeps_in net setup built (c.stack_code_keeps_the_meaning.ensures.keeps accepted) (c.equation_code_keeps_the_meaning.ensures.keeps accepted) (c.decision_code_keeps_the_meaning.ensures accepted))
    (heals_in net setup built c.sound.ensures) (sized_for net setup built)
