use Rattle.ps_edge.specs.Hearing.{listener_seen}
use Rattle.ps_edge.proofs.Told.{of_other}
use Rattle.ps_edge.proofs.refusing.refusal_of_other.Goals as goal

pub returns : goal.returns
returns g c = λ tells.
    let who = listener_seen g.L.Listener.quiet g.L.Listener.heard g.L.KnownListener.reads g.L.KnownListener.unread g.L.KnownListener.room c.args.listener.now in
    of_other who c.args.refusal.now _ _ _ _ _ _ _ c.message.result c.as_bytes.ensures.value c.as_slice-2.ensures c.most.ensures
    (c.first_of-text.ensures tells) c.message.ensures.says
