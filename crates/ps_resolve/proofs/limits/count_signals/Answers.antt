use Rattle.std.proofs.Common.{min, sum_by, ap, ◌∙◌, arith}
use Rattle.std.proofs.lemmas.List.{take_all}
use Rattle.ps_resolve.specs.Counting.{signals_of}
use Rattle.ps_resolve.proofs.NodeCounts.{signals_sum}
use Rattle.ps_resolve.proofs.limits.count_signals.Goals as goal

pub returns : goal.returns
returns c =
    c.loop-e.invariant ∙ ap (λ n. min n 32768) (ap (sum_by (λ e. signals_of e.sort)) (take_all c.loop-e.e-index c.args.entries.now (omega arith)) ∙ signals_sum c.args.entries.now)
