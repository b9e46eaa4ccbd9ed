use Rattle.std.proofs.Common.{arith}
use Rattle.std.proofs.lemmas.Grind.{common_steps}
use Rattle.ps_model.proofs.Rest.{rest_found}
use Rattle.ps_cover.proofs.listing.push_args.Goals as goal

pub loop-j-preserved : goal.loop-j-preserved
loop-j-preserved c =
    let left = rest_found c.args.args.now c.loop-j.j _ c.at.ensures in
    grind (arith, common_steps)
