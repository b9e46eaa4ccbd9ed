use Rattle.ps_bench_watch.proofs.watching.struck_world.Goals as goal

pub returns-clause-begins : goal.returns-clause-begins
returns-clause-begins g c = c.new.ensures.begins c.args.app.now c.in_ok-world.ensures
