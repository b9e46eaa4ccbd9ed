use Rattle.std.proofs.Common.{refl}
use Rattle.ps_bench_watch.proofs.teller.by_name.Goals as goal

pub returns-in-Ok-for_app : goal.returns-in-Ok-for_app
returns-in-Ok-for_app c =
    let made = c.in-Ok-for_app.ensures in
    let watched = c.in-Ok-new.ensures in
    let watcher = c.in-Ok.ensures in
    record {
      fits = made.fits;
      untold = rw (made.performer, made.taker) (
        record {
          world = rw watched.performer c.requires.begins;
          evaluator = watched.first;
          format_is = watcher.format_is;
          names_are = watcher.names_are;
          is_first = watcher.is_first;
          not_restarted = watcher.not_restarted;
        },
        rw watched.performer c.requires.spared,
      );
      by_name = refl;
    }
