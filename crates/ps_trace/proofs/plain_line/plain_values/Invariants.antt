use Rattle.std.proofs.Common.{◌≡◌, ◌≤◌, ◌-◌, ◌*◌, length}
use Rattle.ps_trace.specs.LineSays.{IsSpacedTo}
use Rattle.ps_trace.proofs.plain_line.plain_values.Given as goal

abbrev pub invariant-fours : goal.invariant-fours
invariant-fours l = record {
  within : l.at ≤ length l.values;
  whole : length l.bytes ≡ 2 * length l.values;
  read : IsSpacedTo l.bytes l.at l.values;
}

abbrev pub decreases-fours : goal.decreases-fours
decreases-fours l = length l.values - l.at
