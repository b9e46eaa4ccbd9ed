-- Where a line stands.
use Rattle.std.specs.Prelude.{ℕ, ◌+◌}
use Rattle.ps_why.specs.declared.lines.Line.{Line}

-- a fact at the left, below no other
abbrev pub first_line : (fact : ℕ) → Line
first_line n = record { fact = n; depth = 0 }

-- a fact right below a line
abbrev pub line_below : Line → (fact : ℕ) → Line
line_below above n = record { fact = n; depth = above.depth + 1 }
