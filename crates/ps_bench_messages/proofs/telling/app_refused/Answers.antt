use Rattle.ps_edge.specs.Hearing.{listener_seen}
use Rattle.ps_bench_messages.proofs.Told.{of_source}
use Rattle.ps_bench_messages.proofs.telling.app_refused.Goals as goal

pub returns : goal.returns
returns g c = λ tells.
    let who = listener_seen g.L.Listener.quiet g.L.Listener.heard g.L.KnownListener.reads g.L.KnownListener.unread g.L.KnownListener.room c.args.listener.now in
    of_source who c.args.name.now _ _ c.args.refusal.now c.refusal_of_app.result c.as_slice.ensures (c.first_of-text.ensures tells) c.refusal_of_app.ensures
