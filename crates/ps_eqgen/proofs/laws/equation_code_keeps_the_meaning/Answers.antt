use Rattle.ps_model.specs.Budgets.{turns_b}
use Rattle.ps_machine.proofs.Phases.{exactly_keeps}
use Rattle.ps_eqvm.specs.Code.{code_b}
use Rattle.ps_eqvm.specs.Channel.{machine_b}
use Rattle.ps_eqvm.specs.Stands.{StandsB}
use Rattle.ps_eqgen.proofs.Scanning.{keeps_exactly}
use Rattle.ps_eqgen.proofs.laws.equation_code_keeps_the_meaning.Goals as goal

pub returns : goal.returns
returns c =
    let net = c.args.app.now in
    record {
      exactly = λ accepted sizes are. keeps_exactly net c.sound.ensures accepted sizes are;
      keeps = λ accepted sizes are. exactly_keeps net (machine_b sizes (code_b net) (turns_b net)) (StandsB net) (keeps_exactly net c.sound.ensures accepted sizes are);
    }
