use Rattle.std.proofs.Common.{◌≡◌}
use Rattle.ps_bench_watch.proofs.Playing.{plays_changes, plays_lines}
use Rattle.ps_bench_watch.specs.declared.player.Player.TheVariants.{Lines, Changes}
use Rattle.ps_bench_watch.proofs.player.Player.play.Goals as goal

pub returns-in-Lines-clause-plays : goal.returns-in-Lines-clause-plays
returns-in-Lines-clause-plays g c = λ tells text held reading.
    let is : c.args.self.now ≡ Lines c.in-Lines.runner = cc in
    plays_lines c.args.app.now c.args.self.now c.in-Lines.runner is _ _ _ _ _
    (c.watch_items.ensures.watches tells text held reading)

pub returns-in-Changes-clause-plays : goal.returns-in-Changes-clause-plays
returns-in-Changes-clause-plays g c = λ tells text held reading.
    let is : c.args.self.now ≡ Changes c.in-Changes.runner = cc in
    plays_changes c.args.app.now c.args.self.now c.in-Changes.runner is _ _ _ _ _
    (c.dump_items.ensures.dumps tells text held reading)
