use Rattle.ps_machine.proofs.Fitting.{step_fits}
use Rattle.ps_eqgen.proofs.Counted.{turns_are, code_small}
use Rattle.ps_eqgen.proofs.laws.equation_code_is_short.Goals as goal

pub returns : goal.returns
returns c =
    let net = c.args.app.now in
    record {
      turns = λ accepted. turns_are net c.sound.ensures;
      bytes = λ accepted. code_small net c.sound.ensures (step_fits net c.sound.ensures accepted);
    }
