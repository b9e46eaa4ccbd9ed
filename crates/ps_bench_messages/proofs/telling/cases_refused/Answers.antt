use Rattle.ps_edge.specs.Hearing.{listener_seen}
use Rattle.ps_bench_messages.specs.declared.advising.TheConstants.{MOST_LOOKED_AT}
use Rattle.ps_bench_messages.proofs.Told.{of_text}
use Rattle.ps_bench_messages.proofs.telling.cases_refused.Goals as goal

pub returns : goal.returns
returns g c = λ tells.
    let who = listener_seen g.L.Listener.quiet g.L.Listener.heard g.L.KnownListener.reads g.L.KnownListener.unread g.L.KnownListener.room c.args.listener.now in
    of_text who MOST_LOOKED_AT _ _ c.args.name.now _ _ _ c.case_message.result c.as_bytes.ensures.value c.as_slice-2.ensures (c.first_of-text.ensures tells) c.case_message.ensures
