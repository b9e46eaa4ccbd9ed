use Rattle.ps_runs.proofs.ToCome.{first_fits}
use Rattle.ps_bench_watch.proofs.player.changes_of.Goals as goal

pub new-requires-2 : goal.new-requires-2
new-requires-2 c = first_fits c.args.app.now c.args.world c.requires
