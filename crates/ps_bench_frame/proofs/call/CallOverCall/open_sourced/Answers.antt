use Rattle.std.proofs.Common.{refl}
use Rattle.ps_bench_frame.proofs.Leaving.{reads_one}
use Rattle.ps_bench_frame.proofs.Coming.{app_no_write}
use Rattle.ps_bench_frame.proofs.call.CallOverCall.open_sourced.Goals as goal

pub returns-clause-reads : goal.returns-clause-reads
returns-clause-reads g c =
    let does = c.sourced_of.ensures in
    reads_one c.args.name.now _ _ c.sourced_of.result (record { files = does.keeps; out = refl; loans = refl }) does.unread
    (app_no_write (record { tells = g.F.Files.tells c.args.self.now.files.now; held = g.F.Files.held c.args.self.now.files.now }) c.args.name.now c.sourced_of.result does.opens)
