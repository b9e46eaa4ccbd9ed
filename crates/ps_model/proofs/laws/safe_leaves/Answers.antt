use Rattle.ps_model.proofs.SkeletonLeaves.{leaves_are_safe}
use Rattle.ps_model.proofs.laws.safe_leaves.Goals as goal

pub returns : goal.returns
returns c = λ accepted k e is. leaves_are_safe c.args.app.now accepted k e is
