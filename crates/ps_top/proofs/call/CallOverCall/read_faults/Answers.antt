use Rattle.ps_trace.specs.Faults.{faults_of}
use Rattle.ps_top.proofs.Opened.{gives_faults}
use Rattle.ps_top.proofs.call.CallOverCall.read_faults.Goals as goal

pub returns-clause-gives : goal.returns-clause-gives
returns-clause-gives g c = λ tells.
    gives_faults (λ text. faults_of text c.args.sizes.now) (g.F.Files.held c.args.self.now.files.now c.args.name.now) c.read_faults.result (c.read_faults.ensures.found tells)
    (c.read_faults.ensures.gives tells) (c.read_faults.ensures.refuses tells)
