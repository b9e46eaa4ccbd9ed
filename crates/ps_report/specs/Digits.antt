-- How numbers and truth values are written.
use Rattle.std.specs.Prelude.{ℕ, Bool, if◌then◌else◌}

-- 1 for TRUE and 0 for FALSE
abbrev pub truth_digit : Bool → ℕ
truth_digit b = if b then 49 else 48
