use Rattle.ps_cover.specs.Text.{marks_at}
use Rattle.ps_cover.specs.Telling.{known_of}
use Rattle.ps_cover.proofs.Listings.{one_more}
use Rattle.ps_cover.proofs.text.add_missed_marks.Goals as goal

pub loop-n-preserved : goal.loop-n-preserved
loop-n-preserved c =
    let x = known_of c.args.told.now in
    one_more (λ n. marks_at x c.args.format c.args.step (x.at n)) c.loop-n.n c.args.text.now c.loop-n.text _ c.loop-n.invariant c.in_ok-add_mark_at.ensures
