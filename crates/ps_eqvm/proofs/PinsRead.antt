-- The operands of a BLOCK row, read one after another.
use Rattle.std.proofs.Common.{inl, inr, ◌≡◌, ◌≢◌, ℕ, zero, suc, ◌+◌, ◌*◌, ◌<◌, ◌≤◌, Bool, true, false, List, [], ◌∷◌, length, map, Option, Some, None, refl, sym, ap, ◌∙◌, arith, subst, lit<, zero-add}
use Rattle.std.specs.Prelude.{slice_index, ◌==◌, ◌||◌, max}
use Rattle.std.specs.List.{list_any, range_with_len}
use Rattle.std.specs.Int.{bit_at}
use Rattle.std.proofs.lemmas.Bool.{cases_eq, cases_lt, le-ltb, or_left, or_right, or_from}
use Rattle.std.proofs.lemmas.List.{get_or_past}
use Rattle.std.proofs.lemmas.List.Folds.{list_any-append}
use Rattle.std.proofs.lemmas.List.FromFn.{length-map-range_with_len, get_or-map-range_with_len, map-range_with_len_more}
use Rattle.std.proofs.lemmas.Simd.{map-map}
use Rattle.ps_machine.specs.Bytes.{bit, be2}
use Rattle.ps_model.specs.PinBits.{pin_of}
use Rattle.ps_eqvm.specs.declared.operand.Operand.{Operand}
use Rattle.ps_eqvm.specs.declared.operand.Operand.TheVariants.{Cell, Constant, Bad}
use Rattle.ps_eqvm.specs.Bits.{AreTruths}
use Rattle.ps_eqvm.specs.Finding.{one_of}
use Rattle.ps_eqvm.specs.Rows.{operand_of, operands}
use Rattle.ps_eqvm.specs.Acting.{byte_of, is_missing, is_odd, is_on, pins_on, pin_bytes}
use Rattle.ps_eqvm.specs.Pins.{ReadSoFar, pin_byte}

pub read_none : (f : ℕ → Option ℕ) (bits : ℕ) → ((k : ℕ) → bit_at bits k ≡ 0) → ReadSoFar f 0 bits
read_none f bits zeros = record { whole = refl; pins = λ k h. absurd (omega (arith, h)); beyond = λ k h. zeros k }

-- one more
any_more : (p : Option ℕ → Bool) (f : ℕ → Option ℕ) (n : ℕ) → list_any p (map f (range_with_len 0 (n + 1))) ≡ (list_any p (map f (range_with_len 0 n)) || (p (f n) || false))
any_more p f n = ap (list_any p) (map-range_with_len_more f 0 n n (zero-add n)) ∙ list_any-append p (map f (range_with_len 0 n)) (f n ∷ [])

or_false : (b : Bool) → (b || false) ≡ b
or_false true = refl
or_false false = refl

-- by what was read
one_is : (o : Option ℕ) (on : Bool) → one_of o ≡ Some on → (is_missing o ≡ false) × (is_on o ≡ on)
one_is None on h = absurd (cc h)
one_is (Some byte) on h = let same : (byte == 1) ≡ on = cc h in (refl, same)

-- one more that does not pass
pub none_more : (p : Option ℕ → Bool) (f : ℕ → Option ℕ) (n : ℕ) → list_any p (map f (range_with_len 0 n)) ≡ false → p (f n) ≡ false → list_any p (map f (range_with_len 0 (n + 1))) ≡ false
none_more p f n h g = any_more p f n ∙ or_from (list_any p (map f (range_with_len 0 n))) (p (f n) || false) h (or_false (p (f n)) ∙ g)

pub read_one : (f : ℕ → Option ℕ) (n bits bits' : ℕ) (on : Bool) → ReadSoFar f n bits → one_of (f n) ≡ Some on →
    bit_at bits' n ≡ max (bit_at bits n) (bit on) → ((k : ℕ) → k ≢ n → bit_at bits' k ≡ bit_at bits k) → ReadSoFar f (n + 1) bits'
read_one f n bits bits' on r h same others =
    let is = one_is (f n) on h in
    record {
      whole = none_more is_missing f n r.whole is.0;
      pins = λ k low. elim (cases_eq k n) [
        | inl last ↦ ap (pin_of bits') last ∙ ap (λ b. b == 1) (same ∙ ap (λ b. max b (bit on)) (r.beyond n (omega arith)) ∙ none_before on) ∙ bit_one on ∙ sym (ap (λ k. is_on (f k)) last ∙ is.1)
        | inr other ↦ ap (λ b. b == 1) (others k other) ∙ r.pins k (omega (arith, low, other))
      ];
      beyond = λ k high. let other : k ≢ n = omega (arith, high) in others k other ∙ r.beyond k (omega (arith, high));
    }
  where
    none_before : (on : Bool) → max 0 (bit on) ≡ bit on
    none_before true = refl
    none_before false = refl

    bit_one : (on : Bool) → (bit on == 1) ≡ on
    bit_one true = refl
    bit_one false = refl

-- where one is missing
pub any_at : (p : Option ℕ → Bool) (f : ℕ → Option ℕ) (n j : ℕ) → j < n → p (f j) ≡ true → list_any p (map f (range_with_len 0 n)) ≡ true
any_at p f zero j low h = absurd (omega (arith, low))
any_at p f (suc n) j low h =
    let e : suc n ≡ n + 1 = omega arith in
    ap (λ m. list_any p (map f (range_with_len 0 m))) e ∙ any_more p f n
    ∙ elim (cases_eq j n) [
      | inl last ↦ or_right (list_any p (map f (range_with_len 0 n))) (p (f n) || false) (or_false (p (f n)) ∙ ap (λ k. p (f k)) (sym last) ∙ h)
      | inr other ↦ or_left (list_any p (map f (range_with_len 0 n))) (p (f n) || false) (any_at p f n j (omega (arith, low, other)) h)
    ]

-- an operand that has no truth value, among so many
-- a bad one is among so many
pub missing_at : (f : ℕ → Option ℕ) (count j : ℕ) → j < count → one_of (f j) ≡ None → list_any is_missing (map f (range_with_len 0 count)) ≡ true
missing_at f count j low h = any_at is_missing f count j low (none_is (f j) h)
  where
    none_is : (o : Option ℕ) → one_of o ≡ None → is_missing o ≡ true
    none_is None h = refl
    none_is (Some byte) h = absurd (cc h)

-- none is odd, where each cell's byte is 0 or 1
module _ (signals : ℕ) (cells code : List ℕ) (from : ℕ) (truths : AreTruths cells) where
  even_byte : (byte : ℕ) → byte < 2 → is_odd (Some byte) ≡ false
  even_byte byte low = le-ltb 1 byte (omega arith)

  even_operand : (o : Operand) → is_odd (byte_of cells o) ≡ false
  even_operand (Cell i) = even_byte (slice_index cells i) (elim (cases_lt i (length cells)) [
    | inl low ↦ truths i low
    | inr high ↦ subst (λ (b : ℕ). b < 2) (sym (get_or_past cells i 0 high)) (lit< tt)
  ])
  even_operand (Constant true) = refl
  even_operand (Constant false) = refl
  even_operand Bad = refl

  pub none_odd : (count : ℕ) → list_any is_odd (map (pin_byte signals cells code from) (range_with_len 0 count)) ≡ false
  none_odd zero = refl
  none_odd (suc n) =
      let e : suc n ≡ n + 1 = omega arith in
      let f = pin_byte signals cells code from in
      ap (λ m. list_any is_odd (map f (range_with_len 0 m))) e ∙ none_more is_odd f n (none_odd n) (even_operand (operand_of signals (be2 code (from + 2 * n))))

-- when all are read
pub read_all : (f : ℕ → Option ℕ) (n bits : ℕ) → ReadSoFar f n bits → pin_of bits ≡ pins_on (map f (range_with_len 0 n))
read_all f n bits r =
    let same : (k : ℕ) → pin_of bits k ≡ pins_on (map f (range_with_len 0 n)) k = λ k.
    elim (cases_lt k n) [
      | inl low ↦ r.pins k low ∙ ap is_on (sym (get_or-map-range_with_len f 0 n k k None low (zero-add k)))
      | inr high ↦
          let past : length (map f (range_with_len 0 n)) ≤ k = omega (arith, high, length-map-range_with_len f 0 n) in
          ap (λ b. b == 1) (r.beyond k high) ∙ ap is_on (sym (get_or_past (map f (range_with_len 0 n)) k None past))
    ] in
    λ x k. same k x

-- the bytes of the pins, operand by operand
pub pin_bytes_are : (signals : ℕ) (cells code : List ℕ) (from count : ℕ) → pin_bytes signals cells (operands code from count) ≡ map (pin_byte signals cells code from) (range_with_len 0 count)
pin_bytes_are signals cells code from count = map-map _ _ (range_with_len 0 count)

pub pin_count_is : (signals : ℕ) (cells code : List ℕ) (from count : ℕ) → length (pin_bytes signals cells (operands code from count)) ≡ count
pin_count_is signals cells code from count = ap length (pin_bytes_are signals cells code from count) ∙ length-map-range_with_len (pin_byte signals cells code from) 0 count
