use Rattle.std.proofs.Common.{slice_get}
use Rattle.ps_cover.specs.Text.{step_text}
use Rattle.ps_cover.specs.Telling.{known_of}
use Rattle.ps_cover.proofs.Listings.{one_more}
use Rattle.ps_cover.proofs.text.add_steps.Goals as goal

pub loop-k-preserved : goal.loop-k-preserved
loop-k-preserved c =
    let x = known_of c.args.told.now in
    one_more (λ k. step_text x c.args.format k (slice_get x.net.steps k)) c.loop-k.k c.args.text.now c.loop-k.text _ c.loop-k.invariant c.in_ok-add_step.ensures
