use Rattle.std.proofs.Common.{◌≡◌, ℕ, Bool, IsTrue, List, ap, inl, sym, subst}
use Rattle.ps_bench_frame.specs.declared.ending.Stop.{Stop}
use Rattle.ps_bench_words.specs.Seen.{asked_seen}
use Rattle.ps_bench_watch.specs.LiveAsking.{fed}
use Rattle.ps_edge.specs.Hearing.{listener_seen}
use Rattle.ps_bench_main.specs.Answering.{IsCutOff}
use Rattle.ps_bench_main.specs.Hearing.{HearsStop, ended_status, names_asked}
use Rattle.ps_bench_main.proofs.Cut.{cut_off, heard_by}
use Rattle.ps_bench_main.proofs.Meanwhile.{cut_by, quiet_meanwhile}
use Rattle.ps_bench_main.proofs.call.end_asked.Goals as goal

-- what do_asked took is what is there after the handing on
pub returns-in-Err-clause-cut_off : goal.returns-in-Err-clause-cut_off
returns-in-Err-clause-cut_off g c = λ unanswered.
    let input = fed (g.I.Stream.tells c.args.input.now) (g.I.Stream.coming c.args.input.now) (g.I.Stream.coming c.do_asked-done.new.input) in
    let asked = asked_seen c.args.asked.now in
    let who = listener_seen g.L.Listener.quiet g.L.Listener.heard g.L.KnownListener.reads g.L.KnownListener.unread g.L.KnownListener.room c.args.listener.now in
    let IsHeardOf = λ (stop : Stop). IsTrue (g.L.Listener.tells c.args.listener.now) →
    (is_closed : Bool) × (IsTrue (g.O.Sink.tells c.finished.new.out) → is_closed ≡ g.O.KnownOutput.closed c.finished.new.out)
    × HearsStop is_closed asked who (g.L.Listener.heard c.stopped.new.listener) stop in
    subst (λ (after : List ℕ). IsCutOff asked input (g.F.Files.tells c.args.files.now) (g.F.Files.held c.args.files.now)
    c.stopped.result (g.O.Sink.tells c.args.out.now) (g.O.Sink.taken c.args.out.now) after IsHeardOf) (sym c.in-Err.ensures.kept)
    (cut_off asked input (g.F.Files.tells c.args.files.now) (g.F.Files.held c.args.files.now)
    (g.O.Sink.tells c.args.out.now) (g.O.Sink.taken c.args.out.now) (g.O.Sink.taken c.do_asked-done.new.out) IsHeardOf
    c.do_asked-done.result c.in-Err.stop c.stopped.result
    c.do_asked-done.ensures.answers c.do_asked-done.ensures.stops c.in-Err.ensures.stopped c.stopped.ensures.status
    (λ tells. heard_by who _ (names_asked asked) _ _ _ c.names_in.ensures (c.stopped.ensures.told tells)))

pub returns-in-Ok-clause-meanwhile : goal.returns-in-Ok-clause-meanwhile
returns-in-Ok-clause-meanwhile g c = λ tells.
    (c.do_asked-done.result, inl (sym (ap ended_status c.in-Ok.ensures.done)), c.do_asked-done.ensures.hears tells)

pub returns-in-Err-clause-meanwhile : goal.returns-in-Err-clause-meanwhile
returns-in-Err-clause-meanwhile g c = λ tells. (
  c.do_asked-done.result,
  cut_by c.do_asked-done.result c.in-Err.stop c.stopped.result c.in-Err.ensures.stopped c.stopped.ensures.status,
  c.do_asked-done.ensures.hears tells,
)

pub returns-in-Ok-clause-quiet : goal.returns-in-Ok-clause-quiet
returns-in-Ok-clause-quiet g c = λ tells.
    quiet_meanwhile (asked_seen c.args.asked.now) (g.F.Files.tells c.args.files.now) (g.F.Files.held c.args.files.now) c.do_asked-done.result
    (listener_seen g.N.Listener.quiet g.N.Listener.heard g.N.KnownListener.reads g.N.KnownListener.unread g.N.KnownListener.room c.args.onlookers.now.hearer)
    (g.N.Listener.heard c.do_asked-done.new.listener) (c.do_asked-done.ensures.hears tells)

pub returns-in-Err-clause-quiet : goal.returns-in-Err-clause-quiet
returns-in-Err-clause-quiet g c = λ tells.
    quiet_meanwhile (asked_seen c.args.asked.now) (g.F.Files.tells c.args.files.now) (g.F.Files.held c.args.files.now) c.do_asked-done.result
    (listener_seen g.N.Listener.quiet g.N.Listener.heard g.N.KnownListener.reads g.N.KnownListener.unread g.N.KnownListener.room c.args.onlookers.now.hearer)
    (g.N.Listener.heard c.do_asked-done.new.listener) (c.do_asked-done.ensures.hears tells)
