use Rattle.ps_accepted.proofs.Decided.{demanded_whole}
use Rattle.ps_accepted.proofs.deciding.demand_text.Goals as goal

pub returns-clause-decides : goal.returns-clause-decides
returns-clause-decides c = λ whole is. demanded_whole c.args.text.now whole c.demand_source.result is c.demand_source.ensures
