use Rattle.ps_model.proofs.SkeletonLeaves.{leaves_follow_drivers}
use Rattle.ps_model.proofs.laws.driven_leaves.Goals as goal

pub returns : goal.returns
returns c = leaves_follow_drivers c.args.app.now c.sound.ensures
