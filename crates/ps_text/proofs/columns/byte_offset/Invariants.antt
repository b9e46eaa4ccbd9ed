use Rattle.std.proofs.Common.{◌≡◌, ℕ, ◌-◌, ◌*◌, ◌<◌, ◌≤◌, length, take}
use Rattle.std.specs.Str.{IsCharBoundary}
use Rattle.ps_text.specs.Columns.{units}
use Rattle.ps_text.proofs.columns.byte_offset.Given as goal

abbrev pub invariant-step : goal.invariant-step
invariant-step l = record {
  within : l.offset ≤ length l.line;
  small : l.units ≤ 2 * l.offset;
  counted : l.units ≡ units (take l.offset l.line);
  first : (k : ℕ) → k < l.offset → IsCharBoundary l.line k → units (take k l.line) < l.column;
}

abbrev pub decreases-step : goal.decreases-step
decreases-step l = length l.line - l.offset
