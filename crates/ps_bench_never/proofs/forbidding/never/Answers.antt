use Rattle.ps_bench_never.proofs.Coming.{answered, moved, stops, unread_since}
use Rattle.ps_bench_never.proofs.forbidding.never.Goals as goal

pub returns-in-Ok-clause-answers : goal.returns-in-Ok-clause-answers
returns-in-Ok-clause-answers g c =
    let rules = c.args.asked.now.rules.now in
    let states = c.args.asked.now.states in
    answered c.in-Ok.opened.app c.in-Ok.opened.sizes c.args.asked.now.app.now rules states
    (g.F.Files.tells c.args.files.now) (g.F.Files.held c.args.files.now) (g.O.Sink.tells c.args.out.now)
    (g.O.Sink.taken c.args.out.now) (g.O.Sink.taken c.never_app.new.out) c.never_app.result c.in-Ok.ensures.app
    (moved c.in-Ok.opened.app c.in-Ok.opened.sizes rules states _ _ _ _ _ _ _ _ _ c.never_app.result
    c.in-Ok.ensures.reading c.in-Ok.ensures.kept c.in-Ok.ensures.telling c.in-Ok.ensures.unsaid c.never_app.ensures.answers)

pub returns-in-Ok-clause-stops : goal.returns-in-Ok-clause-stops
returns-in-Ok-clause-stops g c =
    let rules = c.args.asked.now.rules.now in
    let states = c.args.asked.now.states in
    stops c.in-Ok.opened.app c.in-Ok.opened.sizes c.args.asked.now.app.now rules states
    (g.F.Files.tells c.args.files.now) (g.F.Files.held c.args.files.now) (g.O.Sink.tells c.args.out.now)
    (g.O.Sink.taken c.args.out.now) (g.O.Sink.taken c.never_app.new.out) c.never_app.result c.in-Ok.ensures.app
    (moved c.in-Ok.opened.app c.in-Ok.opened.sizes rules states _ _ _ _ _ _ _ _ _ c.never_app.result
    c.in-Ok.ensures.reading c.in-Ok.ensures.kept c.in-Ok.ensures.telling c.in-Ok.ensures.unsaid c.never_app.ensures.answers)

pub returns-in-Ok-clause-unread : goal.returns-in-Ok-clause-unread
returns-in-Ok-clause-unread g c =
    let rules = c.args.asked.now.rules.now in
    unread_since (g.F.Files.faults c.args.files.now) (g.F.Files.faults c.open_app.new.files) (g.F.Files.faults c.never_app.new.files)
    c.args.asked.now.app.now rules c.never_app.result (c.in-Ok.ensures.reads rules) c.never_app.ensures.unread
