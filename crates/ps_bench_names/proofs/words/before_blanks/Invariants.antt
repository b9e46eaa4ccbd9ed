use Rattle.std.proofs.Common.{◌≡◌, ◌≤◌, ◌<◌, ℕ, true, length, get_or}
use Rattle.ps_trace.specs.Words.{is_blank}
use Rattle.ps_bench_names.proofs.words.before_blanks.Given as goal

-- all bytes after are blanks
abbrev pub invariant-blanks : goal.invariant-blanks
invariant-blanks l = record {
  within : l.upto ≤ length l.bytes;
  behind : (k : ℕ) → l.upto ≤ k → k < length l.bytes → is_blank (get_or l.bytes k 0) ≡ true;
}

abbrev pub decreases-blanks : goal.decreases-blanks
decreases-blanks l = l.upto
