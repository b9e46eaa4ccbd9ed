-- Boolean pins in a number.
use Rattle.std.specs.Prelude.{ℕ, Bool, ◌==◌}
use Rattle.std.specs.Int.{bit_at}

-- Boolean pin j of pins in a number is bit j.
abbrev pub pin_of : ℕ → ℕ → Bool
pin_of bits j = bit_at bits j == 1
