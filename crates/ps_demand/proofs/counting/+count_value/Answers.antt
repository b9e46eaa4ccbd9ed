use Rattle.std.proofs.Common.{◌≡◌, ◌+◌, [], drop, map, sym, ap, ◌∙◌, subst, arith}
use Rattle.std.proofs.lemmas.Bool.{cond-true, cond-false}
use Rattle.std.proofs.lemmas.Grind.{common_steps}
use Rattle.ps_model.specs.Exprs.{formula, operands}
use Rattle.ps_model.specs.Network.{signal_count}
use Rattle.ps_model.specs.Typing.{safe}
use Rattle.ps_model.specs.Values.{AreBelow}
use Rattle.ps_demand.specs.Passes.{saturated, count_in, weight, safe_weights, all_weights}
use Rattle.ps_demand.proofs.Operands.{operands_at}
use Rattle.ps_demand.proofs.counting.+count_value.Goals as goal
use Rattle.ps_demand.proofs.counting.+count_value.Goals.{then-is_safe_value, else-is_safe_value}

pub returns-after-loop-x : goal.returns-after-loop-x
returns-after-loop-x t c =
    let end : drop c.loop-x.x-index c.deref-x-items.result.now ≡ [] = grind (arith, common_steps) in
    let counts = count_in c.args.counts.now in
    let net = c.args.app.now in
    let left = subst (λ z. saturated (c.loop-x.count + safe_weights net counts (operands (map formula z))) ≡ saturated (weight net counts (formula c.args.e.now))) end c.loop-x.invariant.counted in
    omega (arith, left, c.loop-x.invariant.few)

pub returns-after-loop-x-2 : goal.returns-after-loop-x-2
returns-after-loop-x-2 t c =
    let end : drop c.loop-x-2.x-index c.deref-x-items-in-Or.result.now ≡ [] = grind (arith, common_steps) in
    let counts = count_in c.args.counts.now in
    let net = c.args.app.now in
    let left = subst (λ z. saturated (c.loop-x-2.count + all_weights net counts (operands (map formula z))) ≡ saturated (weight net counts (formula c.args.e.now))) end c.loop-x-2.invariant.counted in
    omega (arith, left, c.loop-x-2.invariant.few)

pub loop-x-preserved : goal.loop-x-preserved
loop-x-preserved t c =
    let net = c.args.app.now in
    let counts = count_in c.args.counts.now in
    let e = formula c.x-item.result in
    let rest = operands (map formula (drop (c.loop-x.x-index + 1) c.deref-x-items.result.now)) in
    let next = operands_at c.deref-x-items.result.now c.loop-x.x-index c.x-item.result c.loop-x-test.true c.x-item.is in
    let left = ap (safe_weights net counts) next in
    let below = (subst (AreBelow (signal_count net)) next c.loop-x.invariant.below).1 in
    elim c.if-is_safe_value.branch [
      | then-is_safe_value w ↦
          let more = left ∙ cond-true (safe net e) (weight net counts e + safe_weights net counts rest) (safe_weights net counts rest) (sym c.is_safe_value.ensures ∙ w.if-is_safe_value.true) in
          record {
            few = omega (arith, w.count-is, w.saturating_add-count.ensures);
            counted = omega (arith, w.count-is, w.saturating_add-count.ensures, w.count_value.ensures, more, c.loop-x.invariant.counted);
            below = below;
          }
      | else-is_safe_value w ↦
          let more = left ∙ cond-false (safe net e) (weight net counts e + safe_weights net counts rest) (safe_weights net counts rest) (sym c.is_safe_value.ensures ∙ w.if-is_safe_value.false) in
          record {
            few = omega (arith, w.count-is, c.loop-x.invariant.few);
            counted = omega (arith, w.count-is, more, c.loop-x.invariant.counted);
            below = below;
          }
    ]

pub loop-x-2-preserved : goal.loop-x-2-preserved
loop-x-2-preserved t c =
    let net = c.args.app.now in
    let next = operands_at c.deref-x-items-in-Or.result.now c.loop-x-2.x-index c.x-item-in-loop-x-2.result c.loop-x-2-test.true c.x-item-in-loop-x-2.is in
    let left = ap (all_weights net (count_in c.args.counts.now)) next in
    record {
      few = omega (arith, c.saturating_add-count-in-loop-x-2.ensures);
      counted = omega (arith, c.saturating_add-count-in-loop-x-2.ensures, c.count_value-in-loop-x-2.ensures, left, c.loop-x-2.invariant.counted);
      below = (subst (AreBelow (signal_count net)) next c.loop-x-2.invariant.below).1;
    }
