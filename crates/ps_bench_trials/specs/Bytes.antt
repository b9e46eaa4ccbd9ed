-- The byte that a fault leaves.
use Rattle.std.specs.Prelude.{ℕ, List, bit_xor, slice_index_or}
use Rattle.ps_model.specs.declared.channel.Region.{Region}
use Rattle.ps_model.specs.declared.channel.Region.TheVariants.{Code, Cells}

-- the byte that is left: in code the one that was compiled with some bits turned, in cells the one that was drawn
abbrev pub byte_left : (code : List ℕ) → Region → (at bits : ℕ) → ℕ
byte_left code Code at bits = bit_xor (slice_index_or code at 0) bits
byte_left code Cells at bits = bits
