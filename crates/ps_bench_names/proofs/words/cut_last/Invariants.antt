use Rattle.std.proofs.Common.{◌≡◌, ◌≤◌, ◌<◌, ℕ, false, length, get_or}
use Rattle.ps_bench_names.specs.Names.{is_dot}
use Rattle.ps_bench_names.proofs.words.cut_last.Given as goal

-- none of the bytes after is a dot
abbrev pub invariant-bytes : goal.invariant-bytes
invariant-bytes l = record {
  within : l.at ≤ length l.word;
  behind : (k : ℕ) → l.at ≤ k → k < length l.word → is_dot (get_or l.word k 0) ≡ false;
}

abbrev pub decreases-bytes : goal.decreases-bytes
decreases-bytes l = l.at
