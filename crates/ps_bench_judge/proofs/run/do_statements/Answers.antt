use Rattle.std.proofs.Common.{◌+◌, drop}
use Rattle.ps_model.proofs.Rest.{rest_at}
use Rattle.ps_bench_judge.proofs.Turns.{none_left, statement_rises, statements_on, statements_done}
use Rattle.ps_bench_judge.proofs.run.do_statements.Goals as goal

pub do_statement-requires-clause-rising : goal.do_statement-requires-clause-rising
do_statement-requires-clause-rising c =
    let all = c.args.statements.now in
    let i = c.loop-statement.statement-index in
    statement_rises c.args.app.now all c.args.rig.now c.args.judge.now (drop i all) c.loop-statement.rig c.loop-statement.judge c.loop-statement.invariant
    c.statement-item.result (drop (i + 1) all) (rest_at all i c.statement-item.result c.loop-statement-test.true c.statement-item.is)

pub loop-statement-preserved : goal.loop-statement-preserved
loop-statement-preserved c =
    let all = c.args.statements.now in
    let i = c.loop-statement.statement-index in
    statements_on c.args.app.now all c.args.rig.now c.args.judge.now (drop i all) c.loop-statement.rig c.loop-statement.judge c.loop-statement.invariant
    c.statement-item.result (drop (i + 1) all) c.do_statement.new.rig c.do_statement.new.judge (rest_at all i c.statement-item.result c.loop-statement-test.true c.statement-item.is)
    c.in_ok-do_statement.ensures.fits c.in_ok-do_statement.ensures.scan c.in_ok-do_statement.ensures.goes

pub returns-clause-goes : goal.returns-clause-goes
returns-clause-goes c =
    let all = c.args.statements.now in
    let i = c.loop-statement.statement-index in
    (statements_done c.args.app.now all c.args.rig.now c.args.judge.now (drop i all) c.loop-statement.rig c.loop-statement.judge c.loop-statement.invariant
    (none_left all i c.loop-statement-test.false)).1
