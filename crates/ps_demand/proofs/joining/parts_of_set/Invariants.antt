use Rattle.std.proofs.Common.{◌≡◌, ◌++◌}
use Rattle.ps_demand.proofs.joining.parts_of_set.Given as goal

-- what is taken, and what is left, is the whole
abbrev pub invariant-loop-part : goal.invariant-loop-part
invariant-loop-part l = l.parts.items ++ l.part-iterator ≡ l.fn.set.keys
