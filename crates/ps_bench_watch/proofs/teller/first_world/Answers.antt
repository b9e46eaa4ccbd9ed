use Rattle.std.proofs.Common.{◌∙◌}
use Rattle.ps_bench_watch.proofs.teller.first_world.Goals as goal

pub returns-in-Ok : goal.returns-in-Ok
returns-in-Ok c =
    let struck = c.new-in-Ok.ensures in
    record {
      fits = struck.fits c.args.app.now c.in-Ok.ensures;
      begins = struck.begins c.args.app.now c.in-Ok.ensures;
      spared = struck.faults ∙ c.new.ensures;
    }
