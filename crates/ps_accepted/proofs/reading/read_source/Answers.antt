use Rattle.ps_accepted.proofs.Decided.{front_held}
use Rattle.ps_accepted.proofs.reading.read_source.Goals as goal

pub returns-clause-read : goal.returns-clause-read
returns-clause-read g c = λ tells.
    front_held (g.F.Files.held c.args.files.now c.args.app.now) c.read_upto.result (c.read_upto.ensures.found tells) (c.read_upto.ensures.bytes tells)
