use Rattle.ps_model.specs.Budgets.{turns_a}
use Rattle.ps_machine.proofs.Phases.{exactly_keeps}
use Rattle.ps_stackvm.specs.Code.{code_a}
use Rattle.ps_stackvm.specs.Channel.{machine_a}
use Rattle.ps_stackvm.specs.Stands.{StandsA}
use Rattle.ps_stackgen.proofs.Scanning.{keeps_exactly}
use Rattle.ps_stackgen.proofs.laws.stack_code_keeps_the_meaning.Goals as goal

pub returns : goal.returns
returns c =
    let net = c.args.app.now in
    record {
      exactly = λ accepted sizes are. keeps_exactly net c.sound.ensures accepted sizes are;
      keeps = λ accepted sizes are. exactly_keeps net (machine_a sizes (code_a net) (turns_a net)) (StandsA net) (keeps_exactly net c.sound.ensures accepted sizes are);
    }
