use Rattle.std.proofs.Common.{◌∙◌, Err, sym, ap}
use Rattle.ps_bench_watch.specs.Leaving.{ran_by}
use Rattle.ps_bench_watch.proofs.living.ran.Goals as goal

pub returns-in-Ok : goal.returns-in-Ok
returns-in-Ok c = ap (ran_by c.args.trips) (sym c.in-Ok.is)

pub returns-in-Err : goal.returns-in-Err
returns-in-Err c = ap Err c.stop_of.ensures ∙ ap (ran_by c.args.trips) (sym c.in-Err.is)
