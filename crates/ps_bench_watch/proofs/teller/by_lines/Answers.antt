use Rattle.std.proofs.Common.{refl}
use Rattle.ps_bench_watch.proofs.teller.by_lines.Goals as goal

pub returns-in-Ok-for_app : goal.returns-in-Ok-for_app
returns-in-Ok-for_app c =
    let made = c.in-Ok-for_app.ensures in
    record {
      fits = made.fits;
      untold = rw made.performer (c.requires.begins, c.requires.spared);
      by_name = refl;
    }
