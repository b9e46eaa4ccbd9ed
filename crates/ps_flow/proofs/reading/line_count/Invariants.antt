use Rattle.std.proofs.Common.{◌≡◌, ◌≤◌, ◌+◌, length}
use Rattle.ps_flow.specs.Read.{lines_of}
use Rattle.ps_flow.proofs.reading.line_count.Given as goal

-- the lines that were counted, and those that are left; each has a byte at least
abbrev pub invariant-loop-left : goal.invariant-loop-left
invariant-loop-left l = record {
  lines : l.count + length (lines_of l.left) ≡ length (lines_of l.text);
  room : l.count + length l.left ≤ length l.text;
}

abbrev pub decreases-loop-left : goal.decreases-loop-left
decreases-loop-left l = length l.left
