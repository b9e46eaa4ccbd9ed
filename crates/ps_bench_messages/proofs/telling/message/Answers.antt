use Rattle.std.proofs.Common.{ℕ, List, IfOk, subst, sym}
use Rattle.ps_bench_frame.specs.declared.ending.Stop.{Stop}
use Rattle.ps_edge.specs.Hearing.{listener_seen}
use Rattle.ps_bench_messages.specs.Telling.{IsOfCases, IsOfStop, named_by}
use Rattle.ps_bench_messages.proofs.telling.message.Goals as goal

pub returns-in-Cases : goal.returns-in-Cases
returns-in-Cases g c = λ tells.
    let who = listener_seen g.L.Listener.quiet g.L.Listener.heard g.L.KnownListener.reads g.L.KnownListener.unread g.L.KnownListener.room c.args.listener.now in
    subst (λ (stop : Stop). IfOk c.cases_refused.result (IsOfStop who (named_by c.args.names.now) stop)) (sym c.in-Cases.is)
    (subst (λ (name : List ℕ). IfOk c.cases_refused.result (IsOfCases who name c.in-Cases.refusal)) c.case_file.ensures
    (c.cases_refused.ensures tells))
