use Rattle.ps_bench_why.specs.Because.{json_fact, json_head}
use Rattle.ps_bench_why.specs.Moments.{moment_of}
use Rattle.ps_cover.proofs.Listings.{one_more}
use Rattle.ps_bench_why.proofs.telling.json.Goals as goal

pub loop-n-preserved : goal.loop-n-preserved
loop-n-preserved c =
    let m = moment_of c.args.m.now in
    one_more (json_fact m c.args.explanation.now c.args.places.now) c.loop-n.n (json_head m) c.loop-n.text _ c.loop-n.invariant c.in_ok-add_json_fact.ensures
