use Rattle.std.proofs.Common.{◌≡◌, take}
use Rattle.std.specs.List.{sum_by}
use Rattle.ps_derived.specs.declared.limits.TheConstants.{MOST_FLAT_NAMES}
use Rattle.ps_derived.specs.Limits.{counted_to}
use Rattle.ps_derived.specs.Counting.{declared_weight}
use Rattle.ps_derived.proofs.sizes.count_names.Given as goal

abbrev pub invariant-loop-one : goal.invariant-loop-one
invariant-loop-one l = l.count ≡ counted_to MOST_FLAT_NAMES (sum_by (declared_weight l.sizes) (take l.one-index l.declared))
