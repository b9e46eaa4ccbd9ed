use Rattle.std.specs.Prelude.{codes}
use Rattle.ps_cover.proofs.Listings.{one_more}
use Rattle.ps_bench_why.proofs.telling.add_indent.Goals as goal

pub loop-n-preserved : goal.loop-n-preserved
loop-n-preserved c =
    one_more (λ n. codes "  ") c.loop-n.n c.args.text.now c.loop-n.text _ c.loop-n.invariant c.in_ok-extend_from_slice.ensures
