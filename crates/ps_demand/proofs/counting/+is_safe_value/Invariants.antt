use Rattle.std.proofs.Common.{◌≡◌, map, drop}
use Rattle.ps_model.specs.Exprs.{formula, operands}
use Rattle.ps_model.specs.Typing.{safe, some_safe, each_safe}
use Rattle.ps_model.specs.Network.{signal_count}
use Rattle.ps_model.specs.Values.{AreBelow}
use Rattle.ps_demand.proofs.counting.+is_safe_value.Given as goal

abbrev pub decreases-is_safe_value : goal.decreases-is_safe_value
decreases-is_safe_value l = goal.size-is_safe_value l

-- the operands that are left decide
abbrev pub invariant-loop-x : goal.invariant-loop-x
invariant-loop-x l = record {
  left : safe l.fn.app (formula l.fn.e) ≡ some_safe l.fn.app (operands (map formula (drop l.x-index l.x-items)));
  below : AreBelow (signal_count l.fn.app) (operands (map formula (drop l.x-index l.x-items)));
}

abbrev pub invariant-loop-x-2 : goal.invariant-loop-x-2
invariant-loop-x-2 l = record {
  left : safe l.fn.app (formula l.fn.e) ≡ each_safe l.fn.app (operands (map formula (drop l.x-index l.x-items)));
  below : AreBelow (signal_count l.fn.app) (operands (map formula (drop l.x-index l.x-items)));
}
