use Rattle.ps_bench_waves.proofs.Running.{watched_run}
use Rattle.ps_bench_waves.proofs.watching.watch_items.Goals as goal

pub returns-clause-watches : goal.returns-clause-watches
returns-clause-watches G c tells text held reading format names begun =
    let does = c.do_items.ensures.does tells text held reading in
    record {
      bytes = does.bytes;
      written = does.written;
      lines = λ ws means. watched_run c.args.app.now c.sound.ensures format names _ c.args.runner.now.performer
          c.args.runner.now.taker _ does.bytes _ _ _ begun does.did ws means;
    }
