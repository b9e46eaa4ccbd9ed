use Rattle.std.proofs.Common.{◌≡◌, ◌++◌, ◌∷◌, ℕ, List, sym, ap, subst}
use Rattle.std.specs.Result.{OnOk}
use Rattle.std.proofs.lemmas.Result.{on_ok_weaker}
use Rattle.ps_bench_cases.specs.declared.case.Act.{Act}
use Rattle.ps_bench_judge.specs.CaseRuns.{Task, tasks_by}
use Rattle.ps_bench_judge.specs.Holding.{AreFrom, expects, moments}
use Rattle.ps_bench_judge.specs.Moments.{Moment}
use Rattle.ps_bench_judge.specs.Owing.{owed}
use Rattle.ps_bench_judge.specs.Rigs.{Goes}
use Rattle.ps_bench_judge.proofs.Going.{goes_look, goes_restart}
use Rattle.ps_bench_judge.proofs.run.do_act.Goals as goal

pub returns-in-Scans-clause-goes : goal.returns-in-Scans-clause-goes
returns-in-Scans-clause-goes c =
    subst (λ (act : Act). OnOk c.make_scans.result ((later : List Task) →
    Goes c.args.app.now (tasks_by c.args.line c.args.rig.now.scan.ins act ++ later) c.args.rig.now c.args.judge.now later c.make_scans.new.rig c.make_scans.new.judge))
    (sym c.in-Scans.is) c.make_scans.ensures.goes

pub returns-in-Restart-clause-goes : goal.returns-in-Restart-clause-goes
returns-in-Restart-clause-goes c = λ later.
    subst (λ (act : Act). Goes c.args.app.now (tasks_by c.args.line c.args.rig.now.scan.ins act ++ later) c.args.rig.now c.args.judge.now later c.restart.new.self c.args.judge.now)
    (sym c.in-Restart.is) (goes_restart c.args.app.now c.args.rig.now c.restart.new.self c.args.judge.now c.restart.ensures.restarts later)

pub returns-in-Expect-clause-goes : goal.returns-in-Expect-clause-goes
returns-in-Expect-clause-goes c =
    let net = c.args.app.now in
    let what = c.in-Expect.expectation in
    on_ok_weaker c.expect.result
    (λ step later.
    subst (λ (act : Act). Goes net (tasks_by c.args.line c.args.rig.now.scan.ins act ++ later) c.args.rig.now c.args.judge.now later c.args.rig.now c.expect.new.self)
    (sym c.in-Expect.is)
    (goes_look net c.args.line what c.args.rig.now c.args.judge.now c.expect.new.self
    (λ p events from. subst (λ (n : Moment). owed net p c.args.judge.now n (expects c.args.line what.window what.checks ∷ events) ≡ owed net p c.expect.new.self n events) c.seen.ensures
    (step p events (subst (λ (t : ℕ). AreFrom t (moments events)) (sym (ap (λ (n : Moment). n.now) c.seen.ensures)) from)))
    later))
    c.expect.ensures
