-- Cells kept as bits: a value bit and an odd bit for each cell, and a byte that counts only where the odd bit is set.
use Rattle.std.specs.Prelude.{◌≡◌, ℕ, ◌+◌, ◌/◌, ◌%◌, ◌<◌, ◌≤◌, Bool, false, ◌==◌, if◌then◌else◌, nat_lt, Option, Some}
use Rattle.std.specs.Prelude.{None, List, length, map, slice_index}
use Rattle.std.specs.List.{range_with_len}
use Rattle.std.specs.Int.{bit_at}
use Rattle.ps_machine.specs.Bytes.{is_no_bit}
use Rattle.ps_eqvm.specs.declared.layout.TheConstants.{SIGNALS_AT}

-- bit i of words of 64 bits
abbrev pub bit_in : List ℕ → ℕ → ℕ
bit_in words i = bit_at (slice_index words (i / 64)) (i % 64)

-- how many words so many cells need
abbrev pub words_for : ℕ → ℕ
words_for count = (count + 63) / 64

-- the plain byte of a cell: its own byte where it is odd, else its value bit
abbrev pub plain_cell : (value odd counted : List ℕ) → ℕ → ℕ
plain_cell value odd counted i = if bit_in odd i == 1 then slice_index counted i else bit_in value i

-- the plain bytes of all cells in order
abbrev pub plain_cells : (value odd counted : List ℕ) → List ℕ
plain_cells value odd counted = map (plain_cell value odd counted) (range_with_len 0 (length counted))

-- A byte that counts is neither 0 nor 1, and the value bit beside it is 0. There are as many words as the cells need,
-- and the bits past the last cell are 0.
pub record AreCells (value odd counted : List ℕ) : Type 0 where
  pub value_words : length value ≡ words_for (length counted)
  pub odd_words : length odd ≡ words_for (length counted)
  pub counts : (i : ℕ) → bit_in odd i ≡ 1 → 1 < slice_index counted i
  pub beside : (i : ℕ) → bit_in odd i ≡ 1 → bit_in value i ≡ 0
  pub value_beyond : (i : ℕ) → length counted ≤ i → bit_in value i ≡ 0
  pub odd_beyond : (i : ℕ) → length counted ≤ i → bit_in odd i ≡ 0

-- the truth value that a byte is, or none where it is neither 0 nor 1
abbrev pub truth_of : ℕ → Option Bool
truth_of byte = if nat_lt 1 byte then None else Some (byte == 1)

-- bit i of the words is 1 exactly where cell i passes the test, and the bits past the last cell are 0
pub record AreBitsOf (test : ℕ → Bool) (cells words : List ℕ) : Type 0 where
  pub count : length words ≡ words_for (length cells)
  pub each : (i : ℕ) → i < length cells → (bit_in words i == 1) ≡ test (slice_index cells i)
  pub beyond : (i : ℕ) → length cells ≤ i → bit_in words i ≡ 0

-- the byte of each of so many signals is 0 or 1, where the bytes of all cells are these
abbrev pub AreEven : (signals : ℕ) → List ℕ → Type 0
AreEven signals bytes = (s : ℕ) → s < signals → is_no_bit (slice_index bytes (SIGNALS_AT + s)) ≡ false

-- each byte is 0 or 1
abbrev pub AreTruths : List ℕ → Type 0
AreTruths bytes = (i : ℕ) → i < length bytes → slice_index bytes i < 2
