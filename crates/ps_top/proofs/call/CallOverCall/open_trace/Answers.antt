use Rattle.ps_top.proofs.Opened.{opens_trace}
use Rattle.ps_top.proofs.call.CallOverCall.open_trace.Goals as goal

pub returns-clause-opens : goal.returns-clause-opens
returns-clause-opens g c = λ tells.
    opens_trace c.args.app.now (g.F.Files.held c.args.self.now.files.now c.args.name.now) c.start.result (c.start.ensures.found tells) (c.start.ensures.reads tells)
    (c.start.ensures.begins tells) (c.start.ensures.refuses tells)
