use Rattle.std.proofs.Common.{◌∙◌}
use Rattle.ps_edge.specs.Hearing.{listener_seen}
use Rattle.ps_bench_messages.specs.Telling.{named_by}
use Rattle.ps_bench_messages.proofs.Told.{of_input}
use Rattle.ps_bench_messages.proofs.telling.input_refused.Goals as goal

pub returns : goal.returns
returns g c = λ tells.
    let who = listener_seen g.L.Listener.quiet g.L.Listener.heard g.L.KnownListener.reads g.L.KnownListener.unread g.L.KnownListener.room c.args.listener.now in
    of_input who (named_by c.args.names.now) c.args.input c.args.refusal.now _ _ _ _ c.message.result (c.as_bytes.ensures.value ∙ c.input_name-name.ensures)
    c.as_slice-3.ensures (c.input_text-text.ensures tells) c.message.ensures.says
