use Rattle.ps_top.proofs.Opened.{gives_text}
use Rattle.ps_top.proofs.call.CallOverCall.read.Goals as goal

pub returns-clause-gives : goal.returns-clause-gives
returns-clause-gives g c = λ tells.
    gives_text c.args.most (g.F.Files.held c.args.self.now.files.now c.args.name.now) c.read_upto.result (c.read_upto.ensures.found tells) (c.read_upto.ensures.bytes tells)
