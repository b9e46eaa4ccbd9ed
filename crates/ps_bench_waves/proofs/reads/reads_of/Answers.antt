use Rattle.std.proofs.Common.{subst}
use Rattle.std.proofs.lemmas.List.{take_all}
use Rattle.ps_bench_waves.specs.Reads.{AreReadsOf}
use Rattle.ps_bench_waves.proofs.Unchanging.{one_more}
use Rattle.ps_bench_waves.proofs.reads.reads_of.Goals as goal

pub loop-part-preserved : goal.loop-part-preserved
loop-part-preserved c =
    one_more c.args.app.now c.loop-part.reads.items c.push.new.self.items c.read_of.result c.args.parts.now c.loop-part.part-index
    c.loop-part-test.true c.in_ok-push.ensures.items c.loop-part.invariant c.read_of.ensures

pub returns : goal.returns
returns c = subst (AreReadsOf c.args.app.now c.loop-part.reads.items)
    (take_all c.loop-part.part-index c.args.parts.now c.loop-part-test.false) c.loop-part.invariant
