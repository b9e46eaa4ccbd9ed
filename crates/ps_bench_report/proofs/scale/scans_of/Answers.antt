use Rattle.std.proofs.Common.{◌∙◌, take, sym, ap}
use Rattle.ps_bench_report.proofs.scale.scans_of.Goals as goal

pub returns-then-end-clause-shown : goal.returns-then-end-clause-shown
returns-then-end-clause-shown c = c.loop-moment.invariant.shown ∙ ap (λ n. take n c.args.moments.now) (sym c.loop-moment.invariant.count)

pub returns-clause-shown : goal.returns-clause-shown
returns-clause-shown c = c.loop-moment.invariant.shown ∙ ap (λ n. take n c.args.moments.now) (sym c.loop-moment.invariant.count)
