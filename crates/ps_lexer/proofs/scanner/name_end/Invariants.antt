use Rattle.std.proofs.Common.{◌≡◌, ℕ, ◌-◌, ◌<◌, ◌≤◌, true, length, slice_index}
use Rattle.ps_lexer.specs.Spelling.{continues_name}
use Rattle.ps_lexer.proofs.scanner.name_end.Given as goal

abbrev pub invariant-run : goal.invariant-run
invariant-run l = record {
  from : l.i ≤ l.j;
  within : l.j ≤ length l.text;
  continues : (k : ℕ) → l.i ≤ k → k < l.j → continues_name (slice_index l.text k) ≡ true;
}

abbrev pub decreases-run : goal.decreases-run
decreases-run l = length l.text - l.j
