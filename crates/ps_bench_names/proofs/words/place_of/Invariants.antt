use Rattle.std.proofs.Common.{◌≡◌, ◌≤◌, ◌<◌, ◌-◌, ◌==◌, ℕ, false, length, get_or}
use Rattle.ps_bench_names.proofs.words.place_of.Given as goal

-- none of the bytes before is this one
abbrev pub invariant-bytes : goal.invariant-bytes
invariant-bytes l = record {
  within : l.at ≤ length l.word;
  before : (k : ℕ) → k < l.at → (get_or l.word k 0 == l.byte) ≡ false;
}

abbrev pub decreases-bytes : goal.decreases-bytes
decreases-bytes l = length l.word - l.at
