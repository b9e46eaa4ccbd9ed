use Rattle.std.proofs.Common.{refl}
use Rattle.ps_bench_frame.proofs.Leaving.{reads_one}
use Rattle.ps_bench_frame.proofs.call.CallOverCall.follow.Goals as goal

pub returns-clause-reads : goal.returns-clause-reads
returns-clause-reads g c =
    let does = c.follow.ensures in
    reads_one c.args.name.now _ _ c.follow.result (record { files = does.keeps; out = refl; loans = refl }) does.unread does.no_write
