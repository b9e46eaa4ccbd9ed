-- What the guards of a table see, as the code of the blocks has it.
use Rattle.std.specs.Prelude.{ℕ, Bool, false, ◌&&◌, not}
use Rattle.ps_model.specs.Table.{Conditions}
use Rattle.ps_model.specs.Blocks.{modes_on, exactly_on}
use Rattle.ps_block.specs.declared.seen.Seen.{Seen}
use Rattle.ps_model.specs.PinBits.{pin_of}

-- These pins, and whether the limit has elapsed.
abbrev pub seen_at : ℕ → Bool → Seen
seen_at bits elapsed = record { bits = bits; edge = false; static_reset = false; rise = false; elapsed = elapsed }

-- With Reset at pin j, and its value in the last step.
abbrev pub with_reset : Seen → ℕ → Bool → Seen
with_reset s j last = record { bits = s.bits; edge = pin_of s.bits j && not last; static_reset = pin_of s.bits j && last; rise = s.rise; elapsed = s.elapsed }

-- With an auxiliary input at pin j, and its value in the last step.
abbrev pub with_auxiliary : Seen → ℕ → Bool → Seen
with_auxiliary s j last = record { bits = s.bits; edge = s.edge; static_reset = s.static_reset; rise = pin_of s.bits j && not last; elapsed = s.elapsed }

-- The conditions that it stands for, with this latched mode.
abbrev pub conditions_of : Seen → ℕ → Conditions
conditions_of s mode = record {
  pin = pin_of s.bits;
  edge = s.edge;
  static = s.static_reset;
  rise = s.rise;
  elapsed = s.elapsed;
  modes = modes_on (pin_of s.bits);
  exact = exactly_on (pin_of s.bits) mode;
}
