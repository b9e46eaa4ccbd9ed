-- Which cases passed, and which lines are from a line on.
use Rattle.std.specs.Prelude.{ℕ, ◌==◌, ◌+◌, Bool, if◌then◌else◌, min, nat_lt, not}

-- a case with so many failures passes
abbrev pub has_passed : (failures : ℕ) → Bool
has_passed failures = failures == 0

-- how many cases failed, after one more that passed or failed; the largest number stays
abbrev pub failed_behind : (failed : ℕ) → (passed : Bool) → ℕ
failed_behind failed passed = if passed then failed else min (failed + 1) 18446744073709551615

-- a line is from this one on
abbrev pub is_from : (first line : ℕ) → Bool
is_from first line = not (nat_lt line first)
