use Rattle.ps_top.proofs.Ran.{trace_ran, none_opened}
use Rattle.ps_top.proofs.running.run_trace.Goals as goal

pub returns-in-Ok-clause-runs : goal.returns-in-Ok-clause-runs
returns-in-Ok-clause-runs g c = λ tells.
    let net = c.args.app.now in
    trace_ran (g.P.Performer.performs net) (g.T.Taker.said net) (g.T.Taker.takes net) net c.args.trace.now c.args.runner.now.performer c.run_items.new.runner.performer
    c.args.runner.now.taker c.run_items.new.runner.taker (g.C.Call.seen c.args.call.now) (g.C.Call.seen c.open_trace.new.self) (g.C.Call.seen c.run_items.new.call)
    c.in-Ok.reader c.run_items.result tells (c.in-Ok.ensures.opens tells) c.in-Ok.ensures.opened c.in-Ok.ensures.reads c.run_items.ensures.does

pub returns-in-Err-clause-runs : goal.returns-in-Err-clause-runs
returns-in-Err-clause-runs g c = λ tells.
    let net = c.args.app.now in
    none_opened (g.P.Performer.performs net) (g.T.Taker.said net) (g.T.Taker.takes net) net c.args.trace.now c.args.runner.now.performer c.args.runner.now.performer
    c.args.runner.now.taker c.args.runner.now.taker (g.C.Call.seen c.args.call.now) (g.C.Call.seen c.open_trace.new.self) (g.C.Call.seen c.fail.new.call)
    c.in-Err.why c.fail.result (c.in-Err.ensures.opens tells) c.in-Err.ensures.reads.out c.fail.ensures.fails
