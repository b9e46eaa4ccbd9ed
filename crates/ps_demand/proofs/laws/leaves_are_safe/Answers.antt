use Rattle.ps_demand.proofs.SafeLeaves as leaves
use Rattle.ps_demand.proofs.laws.leaves_are_safe.Goals as goal

pub returns : goal.returns
returns c = λ accepted. leaves.leaves_are_safe c.args.app.now accepted
