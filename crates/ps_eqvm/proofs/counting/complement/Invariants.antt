use Rattle.std.proofs.Common.{◌≡◌, ℕ, ◌-◌, ◌<◌, ◌≤◌, get_or}
use Rattle.ps_eqvm.proofs.counting.complement.Given as goal

-- the bytes up to here are complements, and the others are as they were
abbrev pub invariant-loop-byte : goal.invariant-loop-byte
invariant-loop-byte l = record {
  done : (k : ℕ) → k < l.byte-index → get_or l.bytes k 0 ≡ 255 - get_or l.initial.bytes k 0;
  rest : (k : ℕ) → l.byte-index ≤ k → get_or l.bytes k 0 ≡ get_or l.initial.bytes k 0;
}
