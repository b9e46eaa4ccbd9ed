-- The pins in the last bytes of a list, and those in the topmost bytes of the stack.
use Rattle.std.proofs.Common.{◌≡◌, ℕ, ◌+◌, ◌-◌, ◌*◌, ◌/◌, ◌%◌, ◌^◌, ◌<◌, ◌≤◌, Bool, true, false, List, length, take, drop, Option, Some, None, refl, sym, ap, ◌∙◌, ⊎_elim, arith, get_or}
use Rattle.std.specs.Prelude.{◌==◌, ◌||◌, bit_and, IfNone}
use Rattle.std.specs.List.{list_any}
use Rattle.std.specs.Int.{bit_at, w64, from_le_bytes}
use Rattle.std.proofs.lemmas.Bool.{cases_Bool, cases_lt, or_from}
use Rattle.std.proofs.lemmas.List.{drop-take, drop-drop, take-append-drop, get_or-take, get_or-drop, length-take, length-drop}
use Rattle.std.proofs.lemmas.List.Folds.{list_any-append}
use Rattle.std.proofs.lemmas.Nat.Bits.{bit_at_cat_low, bit_at_cat_high}
use Rattle.ps_machine.specs.Bytes.{is_no_bit}
use Rattle.ps_model.specs.PinBits.{pin_of}
use Rattle.ps_stackvm.specs.declared.layout.TheConstants.{SIGNALS_AT}
use Rattle.ps_stackvm.specs.Cells.{height_of}
use Rattle.ps_stackvm.specs.Calling.{pins_in, topmost}
use Rattle.ps_stackvm.proofs.Gathering.{word, word_is, word_shifted, none_odd, odd_none, gathers_bits, bit_of}

-- at most eight bytes, as one number
pub record IsNumberOf (xs : List ℕ) (number : ℕ) : Type 0 where
  pub long : length xs ≤ 8
  pub fits : (i : ℕ) → get_or xs i 0 < 256
  pub is : number ≡ word xs

module _ (bytes last : List ℕ) (n : ℕ) (long : 8 ≤ length bytes) (some : 1 ≤ n) (few : n ≤ 8)
    (fits : (i : ℕ) → get_or bytes i 0 < 256) (is : last ≡ drop (length bytes - 8) bytes) where
  long_eight : length last ≡ 8
  long_eight =
      let d = length-drop (length bytes - 8) bytes in
      let l : length (drop (length bytes - 8) bytes) ≡ 8 = omega (arith, d, long) in
      ap length is ∙ l

  last_fit : (i : ℕ) → get_or last i 0 < 256
  last_fit i =
      let e : get_or last i 0 ≡ get_or bytes ((length bytes - 8) + i) 0 = ap (λ l. get_or l i 0) is ∙ get_or-drop (length bytes - 8) bytes i 0 in
      let f = fits ((length bytes - 8) + i) in
      omega (arith, e, f)

  rest_is : drop (8 - n) last ≡ drop (length bytes - n) bytes
  rest_is =
      let at : (length bytes - 8) + (8 - n) ≡ length bytes - n = omega arith in
      ap (drop (8 - n)) is ∙ drop-drop (8 - n) (length bytes - 8) bytes ∙ ap (λ k. drop k bytes) at

  number_is : (value number count : ℕ) → value ≡ from_le_bytes w64 last → count ≡ n → number ≡ value / 2 ^ (64 - 8 * count) → number ≡ word (drop (length bytes - n) bytes)
  number_is value number count is-value is-count is-number =
      let at : 64 - 8 * count ≡ 8 * (8 - n) = omega arith in
      is-number
      ∙ (λ x. is-value x / 2 ^ at x)
      ∙ ap (λ v. v / 2 ^ (8 * (8 - n))) (word_is last long_eight)
      ∙ word_shifted (8 - n) last last_fit
      ∙ ap word rest_is

  pins_fit : (i : ℕ) → get_or (drop (length bytes - n) bytes) i 0 < 256
  pins_fit i =
      let e = get_or-drop (length bytes - n) bytes i 0 in
      let f = fits ((length bytes - n) + i) in
      omega (arith, e, f)

  pins_long : length (drop (length bytes - n) bytes) ≤ 8
  pins_long = let d = length-drop (length bytes - n) bytes in omega (arith, d, few)

  pub on_top : (value number count : ℕ) → value ≡ from_le_bytes w64 last → count ≡ n → number ≡ value / 2 ^ (64 - 8 * count) → IsNumberOf (drop (length bytes - n) bytes) number
  on_top value number count is-value is-count is-number = record {
    long = pins_long;
    fits = pins_fit;
    is = number_is value number count is-value is-count is-number;
  }

-- a number of bytes of which one is neither 0 nor 1
pub odd_found : (xs : List ℕ) (number : ℕ) → IsNumberOf xs number → (bit_and number 18374403900871474942 ≡ 0 → ⊥) → list_any is_no_bit xs ≡ true
odd_found xs number h odd = ⊎_elim (λ y. y) (λ none. absurd (odd (ap (λ m. bit_and m 18374403900871474942) h.is ∙ none_odd xs 8 none))) (cases_Bool (list_any is_no_bit xs))

-- and of which none is
pub none_found : (xs : List ℕ) (number : ℕ) → IsNumberOf xs number → bit_and number 18374403900871474942 ≡ 0 → list_any is_no_bit xs ≡ false
none_found xs number h none = odd_none xs 8 h.long h.fits (sym (ap (λ m. bit_and m 18374403900871474942) h.is) ∙ none)

-- their bits are the pins
pub pins_found : (xs : List ℕ) (number bits : ℕ) → IsNumberOf xs number → bit_and number 18374403900871474942 ≡ 0 →
    bits ≡ number * 72624976668147840 % 2 ^ 64 / 2 ^ 56 → (j : ℕ) → pin_of bits j ≡ pins_in xs j
pins_found xs number bits h none bits-are j =
    let all = none_found xs number h none in
    ap (λ b. bit_at b j == 1) (bits-are ∙ ap (λ m. m * 72624976668147840 % 2 ^ 64 / 2 ^ 56) h.is ∙ gathers_bits xs h.long all)
    ∙ ap (λ y. y == 1) (bit_of xs all j)

-- ---- More than eight bytes: the first eight of them, and those after.

or_true : (a : Bool) → (a || true) ≡ true
or_true true = refl
or_true false = refl

module _ (bytes : List ℕ) (n : ℕ) (long : n ≤ length bytes) (more : 9 ≤ n) where
  all_pins : List ℕ
  all_pins = drop (length bytes - n) bytes

  first_is : drop (length (take (length bytes - (n - 8)) bytes) - 8) (take (length bytes - (n - 8)) bytes) ≡ take 8 all_pins
  unfolding all_pins
  first_is =
      let l = length-take (length bytes - (n - 8)) bytes in
      let at : length (take (length bytes - (n - 8)) bytes) - 8 ≡ length bytes - n = omega arith in
      let end : length bytes - (n - 8) ≡ (length bytes - n) + 8 = omega arith in
      (λ x. drop (at x) (take (end x) bytes)) ∙ drop-take (length bytes - n) 8 bytes

  behind_is : drop (length bytes - (n - 8)) bytes ≡ drop 8 all_pins
  unfolding all_pins
  behind_is =
      let at : length bytes - (n - 8) ≡ (length bytes - n) + 8 = omega arith in
      ap (λ k. drop k bytes) at ∙ sym (drop-drop 8 (length bytes - n) bytes)

  odd_in_halves : list_any is_no_bit all_pins ≡ (list_any is_no_bit (take 8 all_pins) || list_any is_no_bit (drop 8 all_pins))
  odd_in_halves = ap (list_any is_no_bit) (sym (take-append-drop 8 all_pins)) ∙ list_any-append is_no_bit (take 8 all_pins) (drop 8 all_pins)

  pub none_at_first : list_any is_no_bit (drop (length (take (length bytes - (n - 8)) bytes) - 8) (take (length bytes - (n - 8)) bytes)) ≡ true →
      list_any is_no_bit (drop (length bytes - n) bytes) ≡ true
  unfolding all_pins
  none_at_first h = odd_in_halves ∙ ap (λ b. b || list_any is_no_bit (drop 8 all_pins)) (ap (list_any is_no_bit) (sym first_is) ∙ h)

  pub none_behind : list_any is_no_bit (drop (length bytes - (n - 8)) bytes) ≡ true → list_any is_no_bit (drop (length bytes - n) bytes) ≡ true
  unfolding all_pins
  none_behind h =
      odd_in_halves ∙ ap (λ b. list_any is_no_bit (take 8 all_pins) || b) (ap (list_any is_no_bit) (sym behind_is) ∙ h) ∙ or_true (list_any is_no_bit (take 8 all_pins))

  pub all_are : list_any is_no_bit (drop (length (take (length bytes - (n - 8)) bytes) - 8) (take (length bytes - (n - 8)) bytes)) ≡ false →
      list_any is_no_bit (drop (length bytes - (n - 8)) bytes) ≡ false → list_any is_no_bit (drop (length bytes - n) bytes) ≡ false
  unfolding all_pins
  all_are f b =
      odd_in_halves
      ∙ or_from (list_any is_no_bit (take 8 all_pins)) (list_any is_no_bit (drop 8 all_pins))
      (ap (list_any is_no_bit) (sym first_is) ∙ f) (ap (list_any is_no_bit) (sym behind_is) ∙ b)

  pub pins_are : (low high : ℕ) → low < 256 →
      ((j : ℕ) → pin_of low j ≡ pins_in (drop (length (take (length bytes - (n - 8)) bytes) - 8) (take (length bytes - (n - 8)) bytes)) j) →
      ((j : ℕ) → pin_of high j ≡ pins_in (drop (length bytes - (n - 8)) bytes) j) →
      (j : ℕ) → pin_of (high * 256 + low) j ≡ pins_in (drop (length bytes - n) bytes) j
  unfolding all_pins
  pins_are low high short lows highs j = ⊎_elim
      (λ early.
      ap (λ b. b == 1) (bit_at_cat_low high 8 low j early) ∙ lows j
      ∙ ap (λ y. y == 1) (ap (λ l. get_or l j 0) first_is ∙ get_or-take 8 all_pins j 0 early))
      (λ late.
      let at : 8 + (j - 8) ≡ j = omega arith in
      ap (λ b. b == 1) (bit_at_cat_high high 8 low j short late) ∙ highs (j - 8)
      ∙ ap (λ y. y == 1) (ap (λ l. get_or l (j - 8) 0) behind_is ∙ get_or-drop 8 all_pins (j - 8) 0 ∙ ap (λ k. get_or all_pins k 0) at))
      (cases_lt j 8)

-- where nothing is answered
pub given_none : {X P : Type 0} (o : Option X) → P → IfNone o P
given_none (Some x) p = tt
given_none None p = p

-- the topmost bytes of the stack are the last of those up to its top
pub top_is : (cells : List ℕ) (n : ℕ) → SIGNALS_AT ≤ length cells → height_of cells ≤ 64 → n ≤ height_of cells →
    drop (length (take (10 + height_of cells) cells) - n) (take (10 + height_of cells) cells) ≡ topmost n cells
top_is cells n room low tall =
    let l = length-take (10 + height_of cells) cells in
    let at : length (take (10 + height_of cells) cells) - n ≡ 10 + (height_of cells - n) = omega arith in
    let end : 10 + height_of cells ≡ (10 + (height_of cells - n)) + n = omega arith in
    (λ x. drop (at x) (take (end x) cells)) ∙ drop-take (10 + (height_of cells - n)) n cells
