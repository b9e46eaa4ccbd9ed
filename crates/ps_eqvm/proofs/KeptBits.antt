-- What is known of cells that are kept in bits.
use Rattle.std.proofs.Common.{Some, None, inl, inr, ◌≡◌, ℕ, zero, suc, ◌/◌, ◌%◌, ◌<◌, ◌≤◌, true, false, cond, List, length, replicate, refl, sym, ap, ◌∙◌, subst, ⊎_elim, arith, lit<, zero-add}
use Rattle.std.specs.Prelude.{slice_index, ◌==◌, nat_lt}
use Rattle.std.specs.Int.{bit_at}
use Rattle.std.proofs.lemmas.Bool.{cases_Bool, cond-true, cond-false, eqb-true, eq-eqb, ne_eqb, lt-ltb, le-ltb, cases_lt, cases_eq}
use Rattle.std.proofs.lemmas.List.{same_lists, length-replicate, get_or-replicate, get_or_past}
use Rattle.std.proofs.lemmas.List.FromFn.{length-map-range_with_len, get_or-map-range_with_len}
use Rattle.std.proofs.lemmas.Nat.Bits.{bit_at-lt, bit_at-zero}
use Rattle.ps_eqvm.specs.Bits.{truth_of, bit_in, plain_cell, plain_cells, words_for, AreCells, AreBitsOf}

pub length-cells : (value odd counted : List ℕ) → length (plain_cells value odd counted) ≡ length counted
length-cells value odd counted = length-map-range_with_len (plain_cell value odd counted) 0 (length counted)

pub index-cells : (value odd counted : List ℕ) (i : ℕ) → i < length counted → slice_index (plain_cells value odd counted) i ≡ plain_cell value odd counted i
index-cells value odd counted i low = get_or-map-range_with_len (plain_cell value odd counted) 0 (length counted) i i 0 low (zero-add i)

value_each : (value odd counted : List ℕ) → AreCells value odd counted → (i : ℕ) → (bit_in value i == 1) ≡ (plain_cell value odd counted i == 1)
value_each value odd counted is i =
    ⊎_elim (λ y.
    let o : bit_in odd i ≡ 1 = eqb-true (bit_in odd i) 1 y in
    let big : 1 < slice_index counted i = is.counts i o in
    ap (λ b. b == 1) (is.beside i o) ∙ sym (ap (λ b. b == 1) (cond-true (bit_in odd i == 1) (slice_index counted i) (bit_in value i) y) ∙ ne_eqb (slice_index counted i) 1 (λ e. absurd (omega (arith, e, big)))))
    (λ n. sym (ap (λ b. b == 1) (cond-false (bit_in odd i == 1) (slice_index counted i) (bit_in value i) n)))
    (cases_Bool (bit_in odd i == 1))

odd_each : (value odd counted : List ℕ) → AreCells value odd counted → (i : ℕ) → (bit_in odd i == 1) ≡ nat_lt 1 (plain_cell value odd counted i)
odd_each value odd counted is i =
    ⊎_elim (λ y.
    let o : bit_in odd i ≡ 1 = eqb-true (bit_in odd i) 1 y in
    let big : 1 < slice_index counted i = is.counts i o in
    y ∙ sym (ap (nat_lt 1) (cond-true (bit_in odd i == 1) (slice_index counted i) (bit_in value i) y) ∙ lt_true 1 (slice_index counted i) big))
    (λ n. n ∙ sym (ap (nat_lt 1) (cond-false (bit_in odd i == 1) (slice_index counted i) (bit_in value i) n) ∙ small (bit_in value i) (bit_at-lt (slice_index value (i / 64)) (i % 64))))
    (cases_Bool (bit_in odd i == 1))
  where
    lt_true : (a b : ℕ) → a < b → nat_lt a b ≡ true
    lt_true a b h = lt-ltb a b h

    small : (b : ℕ) → b < 2 → nat_lt 1 b ≡ false
    small b h = le-ltb 1 b (omega arith)

pub value_bits : (value odd counted : List ℕ) → AreCells value odd counted → AreBitsOf (λ byte. byte == 1) (plain_cells value odd counted) value
value_bits value odd counted is =
    let len = length-cells value odd counted in
    record {
      count = is.value_words ∙ ap words_for (sym len);
      each = λ i low. let low' : i < length counted = omega (arith, low, len) in value_each value odd counted is i ∙ ap (λ b. b == 1) (sym (index-cells value odd counted i low'));
      beyond = λ i high. is.value_beyond i (omega (arith, high, len));
    }

pub odd_bits : (value odd counted : List ℕ) → AreCells value odd counted → AreBitsOf (nat_lt 1) (plain_cells value odd counted) odd
odd_bits value odd counted is =
    let len = length-cells value odd counted in
    record {
      count = is.odd_words ∙ ap words_for (sym len);
      each = λ i low. let low' : i < length counted = omega (arith, low, len) in odd_each value odd counted is i ∙ ap (nat_lt 1) (sym (index-cells value odd counted i low'));
      beyond = λ i high. is.odd_beyond i (omega (arith, high, len));
    }

-- words of 0
zero_word : (n k : ℕ) → slice_index (replicate n 0) k ≡ 0
zero_word zero k = refl
zero_word (suc n) zero = refl
zero_word (suc n) (suc k) = zero_word n k

pub zero_bit : (n i : ℕ) → bit_in (replicate n 0) i ≡ 0
zero_bit n i = ap (λ w. bit_at w (i % 64)) (zero_word n (i / 64)) ∙ bit_at-zero (i % 64)

pub zero_cells : (v o : ℕ) (counted : List ℕ) → plain_cells (replicate v 0) (replicate o 0) counted ≡ replicate (length counted) 0
zero_cells v o counted =
    let value : List ℕ = replicate v 0 in
    let odd : List ℕ = replicate o 0 in
    let n = length counted in
    same_lists (plain_cells value odd counted) (replicate n 0) (length-cells value odd counted ∙ sym (length-replicate n 0)) (λ k d low.
    let low' : k < n = omega (arith, low, length-cells value odd counted) in
    get_or-map-range_with_len (plain_cell value odd counted) 0 n k k d low' (zero-add k)
    ∙ ap (λ b. cond (b == 1) (slice_index counted k) (bit_in value k)) (zero_bit o k)
    ∙ zero_bit v k
    ∙ sym (get_or-replicate n k 0 d low'))

pub zeros_are_cells : (v o : ℕ) (counted : List ℕ) → v ≡ words_for (length counted) → o ≡ words_for (length counted) →
    AreCells (replicate v 0) (replicate o 0) counted
zeros_are_cells v o counted value odd = record {
  value_words = length-replicate v 0 ∙ value;
  odd_words = length-replicate o 0 ∙ odd;
  counts = λ i one. absurd (omega (arith, one, zero_bit o i));
  beside = λ i one. zero_bit v i;
  value_beyond = λ i past. zero_bit v i;
  odd_beyond = λ i past. zero_bit o i;
}

-- each cell is a byte where each counted byte is
pub cell_bytes : (value odd counted : List ℕ) → ((i : ℕ) → slice_index counted i < 256) → (i : ℕ) → slice_index (plain_cells value odd counted) i < 256
cell_bytes value odd counted small i =
    elim (cases_lt i (length counted)) [
      | inl low ↦
          subst (λ (b : ℕ). b < 256) (sym (index-cells value odd counted i low))
          (⊎_elim (λ y. subst (λ (b : ℕ). b < 256) (sym (cond-true (bit_in odd i == 1) (slice_index counted i) (bit_in value i) y)) (small i))
          (λ n. subst (λ (b : ℕ). b < 256) (sym (cond-false (bit_in odd i == 1) (slice_index counted i) (bit_in value i) n)) (let bit : bit_in value i < 2 = bit_at-lt (slice_index value (i / 64)) (i % 64) in omega (arith, bit)))
          (cases_Bool (bit_in odd i == 1)))
      | inr high ↦
          let len = length-cells value odd counted in
          let past : length (plain_cells value odd counted) ≤ i = omega (arith, high, len) in
          subst (λ (b : ℕ). b < 256) (sym (get_or_past (plain_cells value odd counted) i 0 past)) (lit< tt)
    ]

-- a cell whose byte is 0 or 1 is not odd
pub even_cell : (value odd counted : List ℕ) (i : ℕ) → AreCells value odd counted → plain_cell value odd counted i < 2 → bit_in odd i ≡ 0
even_cell value odd counted i is small =
    let low : bit_in odd i < 2 = bit_at-lt (slice_index odd (i / 64)) (i % 64) in
    elim (cases_eq (bit_in odd i) 1) [
      | inl one ↦
          let own : plain_cell value odd counted i ≡ slice_index counted i = cond-true (bit_in odd i == 1) (slice_index counted i) (bit_in value i) (eq-eqb (bit_in odd i) 1 one) in
          absurd (omega (arith, own, small, is.counts i one))
      | inr other ↦ omega (arith, low, other)
    ]

-- a byte that is 0 or 1 is a truth value
pub truth_even : (byte : ℕ) → byte < 2 → truth_of byte ≡ Some (byte == 1)
truth_even byte low = cond-false (nat_lt 1 byte) None (Some (byte == 1)) (le-ltb 1 byte (omega arith))

-- where no cell is odd
pub even_cells : (value odd counted : List ℕ) → ((i : ℕ) → bit_in odd i ≡ 0) → (i : ℕ) → i < length (plain_cells value odd counted) → slice_index (plain_cells value odd counted) i < 2
even_cells value odd counted clear i low =
    let own : slice_index (plain_cells value odd counted) i ≡ bit_in value i =
    index-cells value odd counted i (omega (arith, low, length-cells value odd counted)) ∙ ap (λ b. cond (b == 1) (slice_index counted i) (bit_in value i)) (clear i) in
    subst (λ (b : ℕ). b < 2) (sym own) (bit_at-lt (slice_index value (i / 64)) (i % 64))

-- as many cells, as many bytes that may count
pub same_counts : (value odd counted value' odd' counted' : List ℕ) →
    length (plain_cells value odd counted) ≡ length (plain_cells value' odd' counted') → length counted ≡ length counted'
same_counts value odd counted value' odd' counted' same =
    sym (length-cells value odd counted) ∙ same ∙ length-cells value' odd' counted'
