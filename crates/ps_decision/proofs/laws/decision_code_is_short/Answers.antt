use Rattle.ps_decision.proofs.Counted.{turns_are, code_small}
use Rattle.ps_decision.proofs.laws.decision_code_is_short.Goals as goal

pub returns : goal.returns
returns c =
    let net = c.args.app.now in
    record {
      turns = λ accepted. turns_are net c.sound.ensures;
      bytes = λ accepted. code_small net c.sound.ensures;
    }
