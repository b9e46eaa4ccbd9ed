use Rattle.std.proofs.Common.{◌≡◌, ◌≤◌, ◌-◌, length, take}
use Rattle.ps_trace.proofs.copying.copy.Given as goal

abbrev pub invariant-fours : goal.invariant-fours
invariant-fours l = record {
  within : l.at ≤ length l.values;
  size : length l.into ≡ length l.values;
  copied : take l.at l.into ≡ take l.at l.values;
}

abbrev pub decreases-fours : goal.decreases-fours
decreases-fours l = length l.values - l.at
