use Rattle.std.proofs.Common.{arith}
use Rattle.std.proofs.lemmas.Grind.{common_steps}
use Rattle.ps_model.specs.Network.{signal_count}
use Rattle.ps_model.proofs.Rest.{rest_found}
use Rattle.ps_notes.specs.Notes.{listed, of_signal}
use Rattle.ps_notes.proofs.Walking.{each_from}
use Rattle.ps_notes.proofs.noting.notes.Goals as goal

pub loop-k-preserved : goal.loop-k-preserved
loop-k-preserved c =
    let left = rest_found c.args.app.now.steps c.loop-k.k _ c.step.ensures in
    grind (arith, common_steps)

pub loop-s-preserved : goal.loop-s-preserved
loop-s-preserved c =
    let left = each_from (λ s. listed (of_signal c.args.app.now s)) (signal_count c.args.app.now) c.loop-s.s (omega arith) in
    grind (arith, common_steps)
