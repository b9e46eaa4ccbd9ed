use Rattle.ps_bench_watch.proofs.Dumping.{dumped_run}
use Rattle.ps_bench_watch.proofs.player.dump_items.Goals as goal

pub returns-clause-dumps : goal.returns-clause-dumps
returns-clause-dumps g c tells text held reading names begun =
    let does = c.do_items.ensures.does tells text held reading in
    record {
      bytes = does.bytes;
      written = does.written;
      lines = λ ws means. dumped_run c.args.app.now c.sound.ensures names _ c.args.runner.now.performer
          c.args.runner.now.taker _ does.bytes _ _ _ begun does.did ws means;
    }
