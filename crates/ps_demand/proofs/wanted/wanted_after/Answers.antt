use Rattle.std.proofs.Common.{◌≡◌, ℕ, ◌≤◌, ◌<◌, ◌+◌, Some, true, length, length-set, sym, ◌∙◌, subst, arith}
use Rattle.std.specs.Prelude.{slice_set}
use Rattle.ps_model.specs.FirstSteps.{step_noted}
use Rattle.ps_demand.specs.Wanted.{is_wanted, IsLate}
use Rattle.ps_demand.proofs.Lasting.{set_late, set_wanted, after_all_steps}
use Rattle.ps_demand.proofs.wanted.wanted_after.Goals as goal

pub loop-signal-preserved : goal.loop-signal-preserved
loop-signal-preserved c =
    let last = c.loop-signal.last.items in
    let s = c.loop-signal.signal in
    let first = c.args.first in
    let n = length c.args.app.now.steps in
    let same : n ≡ c.step_count-steps.result = sym c.step_count-steps.ensures in
    let inside : s < length last = omega (arith, c.requires, c.loop-signal-test.true, c.loop-signal.invariant.long) in
    record {
      long = length-set last s (Some c.step_count-steps.result) ∙ c.loop-signal.invariant.long;
      late = subst (λ (m : ℕ). (t : ℕ) → IsLate n (step_noted (slice_set last s (Some m)) t)) same (set_late last s n inside c.loop-signal.invariant.late);
      wanted = subst (λ (m : ℕ). (t : ℕ) → first ≤ t → t < s + 1 → is_wanted (slice_set last s (Some m)) n t ≡ true) same
          (set_wanted last s n inside first c.loop-signal.invariant.wanted);
    }

pub returns : goal.returns
returns c =
    after_all_steps c.args.app.now c.args.first c.args.end c.loop-signal.last.items c.loop-signal.invariant.long c.loop-signal.invariant.late
    (λ s low high. c.loop-signal.invariant.wanted s low (omega (arith, high, c.loop-signal-test.false)))
