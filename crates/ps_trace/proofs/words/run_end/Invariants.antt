use Rattle.std.proofs.Common.{◌≡◌, ◌≤◌, ◌<◌, ◌-◌, ℕ, length, slice_index}
use Rattle.ps_trace.specs.Words.{is_blank}
use Rattle.ps_trace.proofs.words.run_end.Given as goal

abbrev pub invariant-loop-end : goal.invariant-loop-end
invariant-loop-end l = record {
  behind : l.at ≤ l.end;
  within : l.end ≤ length l.line;
  alike : (k : ℕ) → l.at ≤ k → k < l.end → is_blank (slice_index l.line k) ≡ l.blanks;
}

abbrev pub decreases-loop-end : goal.decreases-loop-end
decreases-loop-end l = length l.line - l.end
