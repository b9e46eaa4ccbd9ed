use Rattle.std.proofs.Common.{◌≡◌, take, min, sum_by}
use Rattle.ps_resolve.specs.Counting.{signals_of}
use Rattle.ps_resolve.proofs.limits.count_signals.Given as goal

abbrev pub invariant-loop-e : goal.invariant-loop-e
invariant-loop-e l = l.total ≡ min (sum_by (λ e. signals_of e.sort) (take l.e-index l.entries)) 32768
