use Rattle.std.proofs.Common.{◌∙◌, ◌∷◌, ap}
use Rattle.ps_bench_judge.specs.Moments.{moment_of}
use Rattle.ps_bench_judge.specs.Owing.{left_by}
use Rattle.ps_bench_judge.proofs.watch.Watch.see.Goals as goal

pub returns-in-For : goal.returns-in-For
returns-in-For c = λ t ms from.
    ap (λ w. left_by c.args.app.now c.args.self.now.line c.args.self.now.end c.args.self.now.checks.now w t (moment_of c.args.seen.now ∷ ms)) c.in-For.is ∙ c.see_each.ensures t ms from

pub returns-in-Within : goal.returns-in-Within
returns-in-Within c = λ t ms from.
    ap (λ w. left_by c.args.app.now c.args.self.now.line c.args.self.now.end c.args.self.now.checks.now w t (moment_of c.args.seen.now ∷ ms)) c.in-Within.is ∙ c.see_one.ensures t ms from
