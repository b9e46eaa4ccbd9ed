use Rattle.std.proofs.Common.{◌+◌, ℕ, List, IfOk, subst}
use Rattle.ps_edge.specs.Hearing.{listener_seen}
use Rattle.ps_bench_messages.specs.Telling.{IsOfSum}
use Rattle.ps_bench_trials.specs.declared.summing.TheConstants.{LARGEST_SUM}
use Rattle.ps_bench_messages.proofs.Told.{of_text}
use Rattle.ps_bench_messages.proofs.telling.sum_refused.Goals as goal

pub returns : goal.returns
returns g c = λ tells.
    let who = listener_seen g.L.Listener.quiet g.L.Listener.heard g.L.KnownListener.reads g.L.KnownListener.unread g.L.KnownListener.room c.args.listener.now in
    subst (λ (name : List ℕ). IfOk c.sum_message.result (IsOfSum who name c.args.refusal)) c.name_at-name.ensures
    (of_text who (LARGEST_SUM + 1) _ _ c.name_at-name.result.now _ _ _ c.sum_message.result c.as_bytes.ensures.value c.as_slice.ensures (c.first_of-text.ensures tells)
    c.sum_message.ensures)
