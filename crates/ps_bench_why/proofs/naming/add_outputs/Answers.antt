use Rattle.ps_bench_why.specs.Moments.{output_at}
use Rattle.ps_cover.proofs.Listings.{one_more}
use Rattle.ps_bench_why.proofs.naming.add_outputs.Goals as goal

pub loop-i-preserved : goal.loop-i-preserved
loop-i-preserved c =
    one_more (output_at c.args.app.now c.args.s) c.loop-i.i c.args.text.now c.loop-i.text _ c.loop-i.invariant c.in_ok-add_output_at.ensures
