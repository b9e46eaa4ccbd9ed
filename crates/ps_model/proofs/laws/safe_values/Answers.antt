use Rattle.ps_model.proofs.SafeValues.{value_holds}
use Rattle.ps_model.proofs.laws.safe_values.Goals as goal

pub returns : goal.returns
returns c = λ accepted old ins dt new solves. value_holds c.args.app.now accepted old ins dt new solves
