use Rattle.std.proofs.Common.{◌≡◌, ℕ, ◌+◌, ◌-◌, ◌<◌, ◌≤◌, length, slice_index}
use Rattle.ps_lexer.proofs.scanner.line_end.Given as goal

abbrev pub invariant-line : goal.invariant-line
invariant-line l = record {
  from : l.i + 2 ≤ l.k;
  within : l.k ≤ length l.text;
  one_line : (k : ℕ) → l.i + 2 ≤ k → k < l.k → slice_index l.text k ≡ 10 → ⊥;
}

abbrev pub decreases-line : goal.decreases-line
decreases-line l = length l.text - l.k
