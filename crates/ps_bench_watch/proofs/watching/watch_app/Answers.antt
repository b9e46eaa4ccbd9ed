use Rattle.std.proofs.Common.{◌≡◌, Ok, refl}
use Rattle.ps_bench_frame.specs.Opening.{source}
use Rattle.ps_bench_frame.specs.declared.ending.Status.TheVariants.{Usage}
use Rattle.ps_bench_messages.proofs.Remarked.{so}
use Rattle.ps_bench_watch.specs.Asking.{wanted_by}
use Rattle.ps_bench_watch.proofs.Remarked.{err_of, of_case, of_name}
use Rattle.ps_edge.specs.Hearing.{listener_seen}
use Rattle.ps_bench_watch.proofs.watching.watch_app.Goals as goal

pub returns-in-Ok-clause-told : goal.returns-in-Ok-clause-told
returns-in-Ok-clause-told g c = λ tells.
    of_case c.args.asked.now.app.now (wanted_by c.args.asked.now) (source c.args.opened.now.app c.args.opened.now.sizes (g.F.Files.tells c.args.files.now) (g.F.Files.held c.args.files.now))
    (listener_seen g.L.Listener.quiet g.L.Listener.heard g.L.KnownListener.reads g.L.KnownListener.unread g.L.KnownListener.room c.args.listener.now)
    (g.L.Listener.heard c.watch_names.new.listener) (c.watch_names.result ≡ Ok Usage) (c.watch_names.ensures.told tells)

pub returns-in-Err-clause-told : goal.returns-in-Err-clause-told
returns-in-Err-clause-told g c = λ tells.
    so _ _ _ _ refl (of_name c.args.asked.now.app.now (wanted_by c.args.asked.now) (source c.args.opened.now.app c.args.opened.now.sizes (g.F.Files.tells c.args.files.now) (g.F.Files.held c.args.files.now))
    (listener_seen g.L.Listener.quiet g.L.Listener.heard g.L.KnownListener.reads g.L.KnownListener.unread g.L.KnownListener.room c.args.listener.now)
    (g.L.Listener.heard c.tell_no_name.new.listener) c.in-Err.word.now
    (err_of _ c.in_ok-found.found c.in-Err.word c.in-Err.is c.in_ok-found.ensures.none) (c.tell_no_name.ensures.told tells))
