use Rattle.std.proofs.Common.{arith}
use Rattle.std.proofs.lemmas.Grind.{common_steps}
use Rattle.std.proofs.lemmas.List.FromFn.{map-range_with_len_more}
use Rattle.ps_demand.specs.Passes.{saturated, count_in, output_weight}
use Rattle.ps_demand.proofs.counting.count_outputs.Goals as goal

pub loop-j-preserved : goal.loop-j-preserved
loop-j-preserved c =
    let more = map-range_with_len_more (λ j. saturated (output_weight c.args.app.now (count_in c.args.counts.now) c.args.kind c.args.args.now j)) 0 c.loop-j.j c.loop-j.j (omega arith) in
    grind (arith, common_steps)
