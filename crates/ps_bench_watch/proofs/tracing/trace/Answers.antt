use Rattle.ps_bench_watch.proofs.Recorded.{answered, moved, stops, unread_since}
use Rattle.ps_bench_watch.proofs.tracing.trace.Goals as goal

pub returns-in-Ok-clause-answers : goal.returns-in-Ok-clause-answers
returns-in-Ok-clause-answers g c =
    let log = c.args.asked.now.log.now in
    answered c.in-Ok.opened.app c.in-Ok.opened.sizes c.args.asked.now.app.now log
    (g.F.Files.tells c.args.files.now) (g.F.Files.held c.args.files.now) (g.O.Sink.tells c.args.out.now)
    (g.O.Sink.taken c.args.out.now) (g.O.Sink.taken c.trace_app.new.out) c.trace_app.result c.in-Ok.ensures.app
    (moved c.in-Ok.opened.app c.in-Ok.opened.sizes log _ _ _ _ _ _ _ _ _ c.trace_app.result
    c.in-Ok.ensures.reading c.in-Ok.ensures.kept c.in-Ok.ensures.telling c.in-Ok.ensures.unsaid c.trace_app.ensures.answers)

pub returns-in-Ok-clause-stops : goal.returns-in-Ok-clause-stops
returns-in-Ok-clause-stops g c =
    let log = c.args.asked.now.log.now in
    stops c.in-Ok.opened.app c.in-Ok.opened.sizes c.args.asked.now.app.now log
    (g.F.Files.tells c.args.files.now) (g.F.Files.held c.args.files.now) (g.O.Sink.tells c.args.out.now)
    (g.O.Sink.taken c.args.out.now) (g.O.Sink.taken c.trace_app.new.out) c.trace_app.result c.in-Ok.ensures.app
    (moved c.in-Ok.opened.app c.in-Ok.opened.sizes log _ _ _ _ _ _ _ _ _ c.trace_app.result
    c.in-Ok.ensures.reading c.in-Ok.ensures.kept c.in-Ok.ensures.telling c.in-Ok.ensures.unsaid c.trace_app.ensures.answers)

pub returns-in-Ok-clause-unread : goal.returns-in-Ok-clause-unread
returns-in-Ok-clause-unread g c =
    let log = c.args.asked.now.log.now in
    unread_since (g.F.Files.faults c.args.files.now) (g.F.Files.faults c.open_app.new.files) (g.F.Files.faults c.trace_app.new.files)
    c.args.asked.now.app.now log c.trace_app.result (c.in-Ok.ensures.reads log) c.trace_app.ensures.unread
