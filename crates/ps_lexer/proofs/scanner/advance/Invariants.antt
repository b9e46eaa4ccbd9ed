use Rattle.std.proofs.Common.{◌≡◌, ◌-◌, ◌≤◌, length, take}
use Rattle.ps_base.specs.declared.limits.TheConstants.{LARGEST_SOURCE}
use Rattle.ps_lexer.specs.Gaps.{place_after}
use Rattle.ps_lexer.proofs.scanner.advance.Given as goal

abbrev pub invariant-step : goal.invariant-step
invariant-step l = record {
  low : l.fn.from ≤ l.k;
  high : l.k ≤ l.upto;
  within : l.upto ≤ length l.text;
  size : length l.text ≤ LARGEST_SOURCE;
  line : l.line ≡ (place_after (take l.k l.text)).line;
  column : l.column ≡ (place_after (take l.k l.text)).column;
}

abbrev pub decreases-step : goal.decreases-step
decreases-step l = l.upto - l.k
