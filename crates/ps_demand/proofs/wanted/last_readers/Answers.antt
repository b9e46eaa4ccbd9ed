use Rattle.std.proofs.Common.{◌≡◌, ◌+◌, ◌-◌, ◌≤◌, ◌<◌, ℕ, length, subst, arith}
use Rattle.ps_demand.specs.Wanted.{AreLast}
use Rattle.ps_demand.proofs.wanted.last_readers.Goals as goal

pub note_step-requires-clause-step : goal.note_step-requires-clause-step
note_step-requires-clause-step c =
    let within : c.loop-k.k ≤ length c.args.app.now.steps = c.loop-k.invariant.within in
    let some : 0 < c.loop-k.k = c.loop-k-test.true in
    omega (arith, within, some)

pub note_step-requires-clause-long : goal.note_step-requires-clause-long
note_step-requires-clause-long c = c.loop-k.invariant.are.long

pub loop-k-preserved : goal.loop-k-preserved
loop-k-preserved c =
    let net = c.args.app.now in
    let k = c.loop-k.k in
    let some : 0 < k = c.loop-k-test.true in
    let back : k ≡ (k - 1) + 1 = omega (arith, some) in
    let within : k ≤ length net.steps = c.loop-k.invariant.within in
    record {
      within = omega (arith, within);
      are = c.note_step.ensures c.args.first c.args.end
          (subst (λ (n : ℕ). AreLast net n c.args.first c.args.end c.loop-k.last.items) back c.loop-k.invariant.are);
    }

pub returns : goal.returns
returns c =
    let none : c.loop-k.k ≡ 0 = omega (arith, c.loop-k-test.false) in
    subst (λ (n : ℕ). AreLast c.args.app.now n c.args.first c.args.end c.loop-k.last.items) none c.loop-k.invariant.are
