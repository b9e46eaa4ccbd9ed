use Rattle.std.proofs.Common.{◌≡◌, ◌≤◌, ◌<◌, ◌-◌, ℕ, true, length, get_or}
use Rattle.ps_trace.specs.Words.{is_blank}
use Rattle.ps_bench_names.proofs.words.behind_blanks.Given as goal

-- all bytes before are blanks
abbrev pub invariant-blanks : goal.invariant-blanks
invariant-blanks l = record {
  within : l.from ≤ length l.bytes;
  before : (k : ℕ) → k < l.from → is_blank (get_or l.bytes k 0) ≡ true;
}

abbrev pub decreases-blanks : goal.decreases-blanks
decreases-blanks l = length l.bytes - l.from
