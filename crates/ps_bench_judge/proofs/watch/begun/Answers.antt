use Rattle.std.proofs.Common.{◌∙◌, ap}
use Rattle.ps_bench_judge.specs.Holding.{failure_of}
use Rattle.ps_bench_judge.specs.Moments.{moment_of}
use Rattle.ps_bench_judge.proofs.watch.begun.Goals as goal

pub returns-in-Within : goal.returns-in-Within
returns-in-Within c = λ ms from.
    ap (λ w. failure_of c.args.app.now c.args.line w c.args.checks.now (moment_of c.args.seen.now) ms) c.in-Within.is
    ∙ c.opened.ensures c.args.seen.now.now ms from

pub returns-in-For : goal.returns-in-For
returns-in-For c = λ ms from.
    ap (λ w. failure_of c.args.app.now c.args.line w c.args.checks.now (moment_of c.args.seen.now) ms) c.in-For.is
    ∙ c.opened-in-For.ensures c.args.seen.now.now ms from
