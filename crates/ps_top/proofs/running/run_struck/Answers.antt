use Rattle.std.proofs.Common.{◌∷◌, []}
use Rattle.ps_world.specs.Whole.{Setup, IsSetupOf}
use Rattle.ps_top.specs.Program.{run_named, with_faults}
use Rattle.ps_top.proofs.Calling.{found_of_all}
use Rattle.ps_top.proofs.running.run_struck.Goals as goal

pub returns-in-Ok-clause-answers : goal.returns-in-Ok-clause-answers
returns-in-Ok-clause-answers g c =
    let net = c.args.app.now in
    let trace = c.args.trace.now in
    let faults = c.args.faults.now in
    found_of_all Setup (IsSetupOf net) (λ setup. with_faults setup faults (λ list. run_named net setup list trace)) (faults ∷ trace ∷ [])
    c.in-Ok.world.setup c.in-Ok.ensures.setup c.run_faults.ensures.answers
