use Rattle.std.proofs.Common.{◌≡◌, ◌<◌, ◌≤◌, ℕ, slice_index}
use Rattle.ps_top.proofs.saying.line_end.Given as goal

abbrev pub invariant-loop-i : goal.invariant-loop-i
invariant-loop-i l = (k : ℕ) → l.from ≤ k → k < l.i → slice_index l.text k ≡ 10 → ⊥
