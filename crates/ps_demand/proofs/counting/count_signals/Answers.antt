use Rattle.std.proofs.Common.{◌≡◌, ℕ, length, subst, arith}
use Rattle.ps_demand.specs.Passes.{AreCounts}
use Rattle.ps_demand.proofs.counting.count_signals.Goals as goal

pub returns : goal.returns
returns c =
    let net = c.args.app.now in
    let whole : c.loop-k.k ≡ length net.steps = omega (arith, c.step_count-k-end.ensures, c.loop-k.auto.k-end, c.loop-k-test.false) in
    subst (λ (k : ℕ). AreCounts net k c.loop-k.counts.items) whole c.loop-k.invariant
