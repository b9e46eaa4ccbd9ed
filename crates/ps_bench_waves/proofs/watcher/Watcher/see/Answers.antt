use Rattle.ps_bench_judge.specs.Moments.{moment_of}
use Rattle.ps_bench_waves.proofs.Renewing.{still_fits}
use Rattle.ps_bench_waves.proofs.watcher.Watcher.see.Goals as goal

pub returns-clause-fits : goal.returns-clause-fits
returns-clause-fits c =
    still_fits c.args.app.now (moment_of c.args.seen.now) c.args.self.now c.take_values.new.self c.requires
    c.take_values.ensures.takes c.take_values.ensures.room
