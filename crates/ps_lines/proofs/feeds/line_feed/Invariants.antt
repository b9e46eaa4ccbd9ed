use Rattle.std.proofs.Common.{◌≤◌, ◌-◌, length, take}
use Rattle.ps_lines.specs.Lines.{HasNoLineFeed}
use Rattle.ps_lines.proofs.feeds.line_feed.Given as goal

abbrev pub invariant-lanes : goal.invariant-lanes
invariant-lanes l = record {
  within : l.from ≤ length l.bytes;
  none : HasNoLineFeed (take l.from l.bytes);
}

abbrev pub decreases-lanes : goal.decreases-lanes
decreases-lanes l = length l.bytes - l.from
