use Rattle.std.proofs.Common.{ℕ, List, take, drop, ap, arith, ◌-◌}
use Rattle.ps_bench_watch.proofs.lines.StreamLines.line.Goals as goal

pub slice_bounds-result-end : goal.slice_bounds-result-end
slice_bounds-result-end c = omega (arith, c.deref.ensures.len)

pub returns : goal.returns
returns c = ap (λ (bytes : List ℕ). take (c.args.self.now.end - c.args.self.now.begin) (drop c.args.self.now.begin bytes)) c.deref.ensures.value
