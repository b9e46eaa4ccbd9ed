use Rattle.std.proofs.Common.{◌+◌, map, drop, sym, ap, ◌∙◌, subst}
use Rattle.std.specs.Prelude.{◌&&◌, ◌||◌}
use Rattle.ps_model.specs.Exprs.{formula, operands}
use Rattle.ps_model.specs.Network.{signal_count}
use Rattle.ps_model.specs.Typing.{some_safe, each_safe}
use Rattle.ps_model.specs.Values.{AreBelow}
use Rattle.ps_demand.proofs.Operands.{operands_at}
use Rattle.ps_demand.proofs.counting.+is_safe_value.Goals as goal

pub loop-x-preserved : goal.loop-x-preserved
loop-x-preserved t c =
    let net = c.args.app.now in
    let next = operands_at c.deref-x-items.result.now c.loop-x.x-index c.x-item.result c.loop-x-test.true c.x-item.is in
    let rest = operands (map formula (drop (c.loop-x.x-index + 1) c.deref-x-items.result.now)) in
    record {
      left = c.loop-x.invariant.left ∙ ap (some_safe net) next
          ∙ ap (λ is. is || some_safe net rest) (sym c.is_safe_value.ensures ∙ c.if-is_safe_value.false);
      below = (subst (AreBelow (signal_count net)) next c.loop-x.invariant.below).1;
    }

pub loop-x-2-preserved : goal.loop-x-2-preserved
loop-x-2-preserved t c =
    let net = c.args.app.now in
    let next = operands_at c.deref-x-items-in-Or.result.now c.loop-x-2.x-index c.x-item-in-loop-x-2.result c.loop-x-2-test.true c.x-item-in-loop-x-2.is in
    let rest = operands (map formula (drop (c.loop-x-2.x-index + 1) c.deref-x-items-in-Or.result.now)) in
    record {
      left = c.loop-x-2.invariant.left ∙ ap (each_safe net) next
          ∙ ap (λ is. is && each_safe net rest) (sym c.is_safe_value-in-loop-x-2.ensures ∙ c.if-not-is_safe_value.false);
      below = (subst (AreBelow (signal_count net)) next c.loop-x-2.invariant.below).1;
    }
