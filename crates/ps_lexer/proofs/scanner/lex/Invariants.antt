use Rattle.std.proofs.Common.{◌≡◌, ◌-◌, ◌≤◌, length, take}
use Rattle.ps_base.specs.declared.limits.TheConstants.{LARGEST_SOURCE}
use Rattle.ps_lexer.specs.Gaps.{place_after}
use Rattle.ps_lexer.specs.Reading.{Reads}
use Rattle.ps_lexer.proofs.scanner.lex.Given as goal

abbrev pub invariant-scan : goal.invariant-scan
invariant-scan l = record {
  size : length l.text ≤ LARGEST_SOURCE;
  within : l.i ≤ length l.text;
  few : length l.list ≤ l.i;
  stands : l.place ≡ place_after (take l.i l.text);
  read : Reads l.text 0 l.list l.i;
}

abbrev pub decreases-scan : goal.decreases-scan
decreases-scan l = length l.text - l.i
