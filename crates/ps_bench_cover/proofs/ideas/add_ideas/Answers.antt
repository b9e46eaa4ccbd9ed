use Rattle.ps_cover.proofs.Listings.{one_more}
use Rattle.ps_cover.specs.Telling.{known_of}
use Rattle.ps_bench_cover.specs.Ideas.{idea_at}
use Rattle.ps_bench_cover.proofs.ideas.add_ideas.Goals as goal

pub loop-n-preserved : goal.loop-n-preserved
loop-n-preserved c =
    let x = known_of c.args.told.now in
    one_more (λ n. idea_at x (x.at n)) c.loop-n.n c.args.text.now c.loop-n.text _ c.loop-n.invariant c.in_ok-add_idea_at.ensures
