use Rattle.std.proofs.Common.{◌≡◌, ◌+◌, ◌≤◌, map, drop}
use Rattle.ps_model.specs.Exprs.{formula, operands}
use Rattle.ps_model.specs.Network.{signal_count}
use Rattle.ps_model.specs.Values.{AreBelow}
use Rattle.ps_demand.specs.Passes.{saturated, count_in, weight, safe_weights, all_weights}
use Rattle.ps_demand.proofs.counting.+count_value.Given as goal

abbrev pub decreases-count_value : goal.decreases-count_value
decreases-count_value l = goal.size-count_value l

-- what is counted, and what the operands that are left have, is the whole
abbrev pub invariant-loop-x : goal.invariant-loop-x
invariant-loop-x l = record {
  few : l.count ≤ 4294967295;
  counted : saturated (l.count + safe_weights l.fn.app (count_in l.fn.counts) (operands (map formula (drop l.x-index l.x-items))))
      ≡ saturated (weight l.fn.app (count_in l.fn.counts) (formula l.fn.e));
  below : AreBelow (signal_count l.fn.app) (operands (map formula (drop l.x-index l.x-items)));
}

abbrev pub invariant-loop-x-2 : goal.invariant-loop-x-2
invariant-loop-x-2 l = record {
  few : l.count ≤ 4294967295;
  counted : saturated (l.count + all_weights l.fn.app (count_in l.fn.counts) (operands (map formula (drop l.x-index l.x-items))))
      ≡ saturated (weight l.fn.app (count_in l.fn.counts) (formula l.fn.e));
  below : AreBelow (signal_count l.fn.app) (operands (map formula (drop l.x-index l.x-items)));
}
