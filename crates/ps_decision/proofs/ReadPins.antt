-- The pins in bytes that are read from the last to the first.
use Rattle.std.proofs.Common.{◌≡◌, ℕ, ◌+◌, ◌-◌, ◌*◌, ◌^◌, ◌<◌, ◌≤◌, true, false, List, [], ◌∷◌, length, drop, refl, sym, ap, ◌∙◌, arith, get_or, lit<}
use Rattle.std.specs.Prelude.{◌==◌, slice_index}
use Rattle.std.specs.List.{list_any}
use Rattle.std.proofs.lemmas.Bool.{or_from, le-ltb, lt-ltb}
use Rattle.std.proofs.lemmas.Grind.{pow_more}
use Rattle.std.proofs.lemmas.List.{drop_more, get_or-take, get_or-drop, length-take-le, length-drop}
use Rattle.std.proofs.lemmas.List.Folds.{list_any_at}
use Rattle.std.proofs.lemmas.Nat.{pow_below}
use Rattle.ps_machine.specs.Bytes.{is_no_bit}
use Rattle.ps_model.specs.PinBits.{pin_of}
use Rattle.ps_stackvm.specs.Calling.{pins_in}
use Rattle.ps_stackvm.proofs.Gathering.{bits_of, bit_of}
use Rattle.ps_decision.specs.declared.layout.TheConstants.{PINS_AT, PIN_CELLS, SIGNALS_AT}
use Rattle.ps_decision.specs.Cells.{pin_bytes}

-- the last k of these bytes were read: each is 0 or 1, and these are their bits
pub record WasRead (xs : List ℕ) (k bits : ℕ) : Type 0 where
  pub all : list_any is_no_bit (drop (length xs - k) xs) ≡ false
  pub are : bits ≡ bits_of (drop (length xs - k) xs)
  pub few : bits < 2 ^ k

-- the pin cells that a kind with so many pins reads
pub pin_count : (n : ℕ) (cells : List ℕ) → n ≤ PIN_CELLS → SIGNALS_AT ≤ length cells → length (pin_bytes n cells) ≡ n
pin_count n cells few room = length-take-le n (drop PINS_AT cells) (omega (arith, length-drop PINS_AT cells))

pub pin_byte : (n j : ℕ) (cells : List ℕ) → j < n → get_or (pin_bytes n cells) j 0 ≡ slice_index cells (PINS_AT + j)
pin_byte n j cells low = get_or-take n (drop PINS_AT cells) j 0 low ∙ get_or-drop PINS_AT cells j 0

drop_end : (xs : List ℕ) → drop (length xs) xs ≡ []
drop_end [] = refl
drop_end (x ∷ xs) = drop_end xs

pub read_none : (xs : List ℕ) → WasRead xs 0 0
read_none xs =
    let whole : length xs - 0 ≡ length xs = omega arith in
    let end : drop (length xs - 0) xs ≡ [] = ap (λ n. drop n xs) whole ∙ drop_end xs in
    record { all = ap (list_any is_no_bit) end; are = sym (ap bits_of end); few = lit< tt }

pub read_more : (xs : List ℕ) (k bits byte : ℕ) → k < length xs → byte ≡ get_or xs (length xs - 1 - k) 0 → byte ≤ 1 → WasRead xs k bits → WasRead xs (k + 1) (2 * bits + byte)
read_more xs k bits byte inside is low r =
    let i = length xs - 1 - k in
    let next : i + 1 ≡ length xs - k = omega arith in
    let here : length xs - (k + 1) ≡ i = omega arith in
    let rest : drop (length xs - (k + 1)) xs ≡ get_or xs i 0 ∷ drop (length xs - k) xs =
    ap (λ n. drop n xs) here ∙ drop_more xs i 0 (omega arith) ∙ ap (λ n. get_or xs i 0 ∷ drop n xs) next in
    let good : is_no_bit (get_or xs i 0) ≡ false = le-ltb 1 (get_or xs i 0) (omega arith) in
    record {
      all = ap (list_any is_no_bit) rest ∙ or_from (is_no_bit (get_or xs i 0)) (list_any is_no_bit (drop (length xs - k) xs)) good r.all;
      are = omega (arith, ap bits_of rest, r.are, is);
      few = omega (arith, pow_more 2 k, r.few);
    }

pub odd_read : (xs : List ℕ) (k byte : ℕ) → k < length xs → byte ≡ get_or xs (length xs - 1 - k) 0 → 1 < byte → list_any is_no_bit xs ≡ true
odd_read xs k byte inside is high = list_any_at is_no_bit xs (length xs - 1 - k) 0 (omega arith) (lt-ltb 1 (get_or xs (length xs - 1 - k) 0) (omega arith))

pub few_bits : (k bits : ℕ) → k < PIN_CELLS → bits < 2 ^ k → bits < 8192
few_bits k bits low few = omega (arith, pow_below k PIN_CELLS low)

-- all were read
pub all_read : (xs : List ℕ) (k bits : ℕ) → k ≡ length xs → WasRead xs k bits → (list_any is_no_bit xs ≡ false) × ((j : ℕ) → pin_of bits j ≡ pins_in xs j)
all_read xs k bits end r =
    let none : length xs - k ≡ 0 = omega arith in
    let all : list_any is_no_bit xs ≡ false = ap (λ n. list_any is_no_bit (drop n xs)) (sym none) ∙ r.all in
    let are : bits ≡ bits_of xs = r.are ∙ ap (λ n. bits_of (drop n xs)) none in (
      all,
      λ j. ap (λ b. pin_of b j) are ∙ ap (λ y. y == 1) (bit_of xs all j),
    )

-- the byte that is read next
pub next_byte : (n k : ℕ) (cells : List ℕ) → n ≤ PIN_CELLS → SIGNALS_AT ≤ length cells → k < n → slice_index cells (PINS_AT + (n - 1 - k)) ≡ get_or (pin_bytes n cells) (length (pin_bytes n cells) - 1 - k) 0
next_byte n k cells few room low =
    let many = pin_count n cells few room in
    sym (ap (λ l. get_or (pin_bytes n cells) (l - 1 - k) 0) many ∙ pin_byte n (n - 1 - k) cells (omega arith))
