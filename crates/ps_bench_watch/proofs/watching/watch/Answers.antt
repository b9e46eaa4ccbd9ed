use Rattle.std.proofs.Common.{◌≡◌, Ok, refl}
use Rattle.ps_bench_frame.specs.declared.ending.Status.TheVariants.{Usage}
use Rattle.ps_bench_messages.proofs.Remarked.{not_so, of_app}
use Rattle.ps_edge.specs.Hearing.{listener_seen}
use Rattle.ps_bench_watch.specs.Asking.{wanted_by}
use Rattle.ps_bench_watch.specs.Remarking.{TellsUnmeant}
use Rattle.ps_bench_watch.proofs.WatchComing.{answered, moved, stops}
use Rattle.ps_bench_watch.proofs.watching.watch.Goals as goal

pub returns-in-Ok-clause-answers : goal.returns-in-Ok-clause-answers
returns-in-Ok-clause-answers g c =
    answered c.in-Ok.opened.app c.in-Ok.opened.sizes c.args.asked.now.app.now c.args.asked.now.layout (wanted_by c.args.asked.now)
    (g.F.Files.tells c.args.files.now) (g.F.Files.held c.args.files.now) (g.O.Sink.tells c.args.out.now)
    (g.O.Sink.taken c.args.out.now) (g.O.Sink.taken c.watch_app.new.out) c.watch_app.result c.in-Ok.ensures.app
    (moved c.in-Ok.opened.app c.in-Ok.opened.sizes c.args.asked.now.layout (wanted_by c.args.asked.now) _ _ _ _ _ _ _ _ _ c.watch_app.result
    c.in-Ok.ensures.reading c.in-Ok.ensures.kept c.in-Ok.ensures.telling c.in-Ok.ensures.unsaid c.watch_app.ensures.answers)

pub returns-in-Ok-clause-stops : goal.returns-in-Ok-clause-stops
returns-in-Ok-clause-stops g c =
    stops c.in-Ok.opened.app c.in-Ok.opened.sizes c.args.asked.now.app.now c.args.asked.now.layout (wanted_by c.args.asked.now)
    (g.F.Files.tells c.args.files.now) (g.F.Files.held c.args.files.now) (g.O.Sink.tells c.args.out.now)
    (g.O.Sink.taken c.args.out.now) (g.O.Sink.taken c.watch_app.new.out) c.watch_app.result c.in-Ok.ensures.app
    (moved c.in-Ok.opened.app c.in-Ok.opened.sizes c.args.asked.now.layout (wanted_by c.args.asked.now) _ _ _ _ _ _ _ _ _ c.watch_app.result
    c.in-Ok.ensures.reading c.in-Ok.ensures.kept c.in-Ok.ensures.telling c.in-Ok.ensures.unsaid c.watch_app.ensures.answers)

pub returns-in-Ok-clause-told : goal.returns-in-Ok-clause-told
returns-in-Ok-clause-told g c = λ tells.
    of_app (c.watch_app.result ≡ Ok Usage) (TellsUnmeant c.args.asked.now.app.now (wanted_by c.args.asked.now)) c.in-Ok.opened.app c.in-Ok.opened.sizes
    c.args.asked.now.app.now (g.F.Files.tells c.args.files.now) _ (g.F.Files.held c.args.files.now) _
    (listener_seen g.L.Listener.quiet g.L.Listener.heard g.L.KnownListener.reads g.L.KnownListener.unread g.L.KnownListener.room c.args.listener.now)
    (g.L.Listener.heard c.watch_app.new.listener) c.in-Ok.ensures.reading c.in-Ok.ensures.kept c.in-Ok.ensures.app (c.watch_app.ensures.told tells)

pub returns-in-Err-clause-told : goal.returns-in-Err-clause-told
returns-in-Err-clause-told g c = λ tells. not_so _ _ _ _ (λ is. cc) refl
