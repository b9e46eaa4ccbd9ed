use Rattle.std.proofs.Common.{◌∙◌, sym, ap, arith}
use Rattle.ps_bench_judge.specs.Moments.{moment_of}
use Rattle.ps_bench_judge.specs.Owing.{left}
use Rattle.ps_bench_judge.proofs.Windows.{within_met, within_missed, within_past}
use Rattle.ps_bench_judge.proofs.watch.Watch.see_one.Goals as goal

pub returns-in-Some : goal.returns-in-Some
returns-in-Some c = λ t ms from.
    within_past c.args.app.now c.args.self.now.line c.args.self.now.end c.args.self.now.checks.now c.args.latest t (moment_of c.args.seen.now) ms (omega (arith, c.if-self-seen.true)) from ∙ c.in-Some.is

pub returns-in-None : goal.returns-in-None
returns-in-None c = λ t ms from.
    within_past c.args.app.now c.args.self.now.line c.args.self.now.end c.args.self.now.checks.now c.args.latest t (moment_of c.args.seen.now) ms (omega (arith, c.if-self-seen.true)) from ∙ c.in-None.is

pub returns-in-Some-failure_in : goal.returns-in-Some-failure_in
returns-in-Some-failure_in c = λ t ms from.
    within_missed c.args.app.now c.args.self.now.line c.args.self.now.end c.args.self.now.checks.now c.args.latest t (moment_of c.args.seen.now) ms c.in-Some-failure_in.failure
    (omega (arith, c.if-self-seen.false)) (sym c.failure_in.ensures ∙ c.in-Some-failure_in.is)
    ∙ sym (ap (λ w. left c.args.app.now w c.args.seen.now.now ms) c.going_on.ensures)

pub returns-in-None-failure_in : goal.returns-in-None-failure_in
returns-in-None-failure_in c = λ t ms from.
    within_met c.args.app.now c.args.self.now.line c.args.self.now.end c.args.self.now.checks.now c.args.latest t (moment_of c.args.seen.now) ms
    (omega (arith, c.if-self-seen.false)) (sym c.failure_in.ensures ∙ c.in-None-failure_in.is)
