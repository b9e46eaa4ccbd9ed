use Rattle.ps_bench_watch.proofs.WatchEnding.{ends_refused, ends_unwritten}
use Rattle.ps_bench_watch.proofs.watching.stop_behind.Goals as goal

pub returns-in-Refused-clause-ends : goal.returns-in-Refused-clause-ends
returns-in-Refused-clause-ends g c =
    ends_refused c.args.cut c.in-Refused.refusal c.in-Refused.is
    (g.O.Sink.tells c.args.out.now) (g.O.Sink.taken c.args.out.now) (g.O.Sink.taken c.refuse_input.new.out) c.refuse_input.result
    c.refuse_input.ensures.says

pub returns-in-Unwritten-clause-ends : goal.returns-in-Unwritten-clause-ends
returns-in-Unwritten-clause-ends g c =
    ends_unwritten c.args.cut c.in-Unwritten.is (g.O.Sink.tells c.args.out.now) (g.O.Sink.taken c.args.out.now)
