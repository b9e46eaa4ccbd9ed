use Rattle.std.proofs.Common.{◌≡◌, ℕ, length, subst, arith}
use Rattle.ps_demand.specs.Passes.{AreSlim}
use Rattle.ps_demand.proofs.slimming.slim_signals.Goals as goal

pub returns : goal.returns
returns c =
    let net = c.args.app.now in
    let last = c.in_ok-last.last.items in
    let whole : c.loop-k.k ≡ length net.steps = omega (arith, c.step_count-k-end.ensures, c.loop-k.auto.k-end, c.loop-k-test.false) in
    let all : AreSlim net (length net.steps) last c.loop-k.rows.items = subst (λ (k : ℕ). AreSlim net k last c.loop-k.rows.items) whole c.loop-k.invariant.small in
    record {
      long = all.long;
      each = λ s low high is few. all.each s (omega (arith, high, c.requires.within)) is (c.in_ok-last.ensures.after_all s low high) few;
    }
