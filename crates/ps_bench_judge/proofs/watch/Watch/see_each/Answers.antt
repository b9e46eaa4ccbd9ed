use Rattle.std.proofs.Common.{arith}
use Rattle.ps_bench_judge.specs.Moments.{moment_of}
use Rattle.ps_bench_judge.proofs.Windows.{for_past}
use Rattle.ps_bench_judge.proofs.watch.Watch.see_each.Goals as goal

pub returns-then-seen-self : goal.returns-then-seen-self
returns-then-seen-self c = λ t ms from.
    for_past c.args.app.now c.args.self.now.line c.args.self.now.end c.args.self.now.checks.now t (moment_of c.args.seen.now) ms (omega (arith, c.if-seen-self.true)) from
