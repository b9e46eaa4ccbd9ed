use Rattle.std.proofs.Common.{◌≡◌, ℕ, ◌-◌, ◌<◌, ◌≤◌, true, length, slice_index}
use Rattle.std.specs.Char.{is_ascii_alphabetic}
use Rattle.ps_lexer.proofs.time.letters_len.Given as goal

abbrev pub invariant-run : goal.invariant-run
invariant-run l = (l.n ≤ length l.bytes) × ((k : ℕ) → k < l.n → is_ascii_alphabetic (slice_index l.bytes k) ≡ true)

abbrev pub decreases-run : goal.decreases-run
decreases-run l = length l.bytes - l.n
