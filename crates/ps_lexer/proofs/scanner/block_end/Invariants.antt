use Rattle.std.proofs.Common.{◌≡◌, ℕ, ◌+◌, ◌-◌, ◌<◌, ◌≤◌, length, slice_index}
use Rattle.ps_lexer.proofs.scanner.block_end.Given as goal

abbrev pub invariant-block : goal.invariant-block
invariant-block l = record {
  from : l.i + 2 ≤ l.k;
  within : l.k ≤ length l.text;
  first : (k : ℕ) → l.i + 2 ≤ k → k < l.k → slice_index l.text k ≡ 42 → slice_index l.text (k + 1) ≡ 41 → ⊥;
}

abbrev pub decreases-block : goal.decreases-block
decreases-block l = length l.text - l.k
