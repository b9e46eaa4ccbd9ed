-- What a look at the operands of a BLOCK row finds, as the code has it.
use Rattle.std.specs.Prelude.{◌≡◌, ℕ, ◌+◌, ◌*◌, ◌<◌, ◌≤◌, true, false, List, Option, map}
use Rattle.std.specs.List.{list_any, range_with_len}
use Rattle.std.specs.Int.{bit_at}
use Rattle.ps_machine.specs.Bytes.{be2}
use Rattle.ps_model.specs.PinBits.{pin_of}
use Rattle.ps_eqvm.specs.declared.block.Pins.{Pins}
use Rattle.ps_eqvm.specs.declared.block.Pins.TheVariants.{Missing, Odd, Bits}
use Rattle.ps_eqvm.specs.Rows.{operand_of}
use Rattle.ps_eqvm.specs.Acting.{byte_of, is_missing, is_odd, is_on, pins_on}

-- by the bytes of the pins
abbrev pub Reads : Pins → List (Option ℕ) → Type 0
Reads Missing bytes = list_any is_missing bytes ≡ true
Reads Odd bytes = (list_any is_missing bytes ≡ false) × (list_any is_odd bytes ≡ true)
Reads (Bits bits) bytes = (list_any is_missing bytes ≡ false) × (list_any is_odd bytes ≡ false) × (pin_of bits ≡ pins_on bytes)

-- the byte of operand j, where the operands begin at a place of the code
abbrev pub pin_byte : (signals : ℕ) → (cells code : List ℕ) → (from j : ℕ) → Option ℕ
pin_byte signals cells code from j = byte_of cells (operand_of signals (be2 code (from + 2 * j)))

-- What is known after n operands, where f k is the byte of operand k: none is bad, and the pins so far.
pub record ReadSoFar (f : ℕ → Option ℕ) (n bits : ℕ) : Type 0 where
  pub whole : list_any is_missing (map f (range_with_len 0 n)) ≡ false
  pub pins : (k : ℕ) → k < n → pin_of bits k ≡ is_on (f k)
  pub beyond : (k : ℕ) → n ≤ k → bit_at bits k ≡ 0
