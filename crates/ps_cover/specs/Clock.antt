-- The time between two scans.
use Rattle.std.specs.Prelude.{ℕ, ◌-◌, Option, Some, None}

-- the ms that passed since the scan before, 0 where there is none
abbrev pub since : Option ℕ → (now : ℕ) → ℕ
since None now = 0
since (Some before) now = now - before
