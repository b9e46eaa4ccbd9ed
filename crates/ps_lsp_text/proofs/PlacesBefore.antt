-- The places of a text, byte by byte.
use Rattle.std.proofs.Common.{◌≡◌, ℕ, zero, suc, ◌+◌, ◌-◌, ◌<◌, ◌≤◌, Bool, true, false, cond, not, List, [], ◌∷◌, ◌++◌, length, take, get_or, reverse, count_by, inl, inr, ap, sym, ◌∙◌, arith, refl}
use Rattle.std.specs.List.{take_while}
use Rattle.std.proofs.lemmas.Bool.{cases_Bool}
use Rattle.std.proofs.lemmas.List.{take_more, reverse-append}
use Rattle.std.proofs.lemmas.List.Sums.{sum_by_push, take_while-cons}
use Rattle.ps_lexer.specs.Gaps.{is_line_feed}

-- the line after these bytes, and the column
abbrev pub line_after : List ℕ → ℕ
line_after bytes = 1 + count_by is_line_feed bytes

abbrev pub column_after : List ℕ → ℕ
column_after bytes = 1 + length (take_while (λ b. not (is_line_feed b)) (reverse bytes))

line_push : (bytes : List ℕ) (b : ℕ) → line_after (bytes ++ b ∷ []) ≡ line_after bytes + cond (is_line_feed b) 1 0
line_push bytes b = let e = sum_by_push (λ (x : ℕ). cond (is_line_feed x) 1 0) bytes b in omega arith

column_push : (bytes : List ℕ) (b : ℕ) → column_after (bytes ++ b ∷ []) ≡ cond (not (is_line_feed b)) (1 + column_after bytes) 1
column_push bytes b =
    ap (λ (l : List ℕ). 1 + length (take_while (λ x. not (is_line_feed x)) l)) (reverse-append bytes (b ∷ []))
    ∙ ap (λ (l : List ℕ). 1 + length l) (take_while-cons (λ x. not (is_line_feed x)) b (reverse bytes))
    ∙ by (not (is_line_feed b))
  where
    by : (v : Bool) → 1 + length (cond v (b ∷ take_while (λ x. not (is_line_feed x)) (reverse bytes)) []) ≡ cond v (1 + column_after bytes) 1
    by true = omega arith
    by false = refl

module _ (text : List ℕ) where
  -- the line and the column of a byte
  abbrev pub line_of : ℕ → ℕ
  line_of k = line_after (take k text)

  abbrev pub column_of : ℕ → ℕ
  column_of k = column_after (take k text)

  pub line_feed : (k : ℕ) → k < length text → is_line_feed (get_or text k 0) ≡ true → line_of (k + 1) ≡ line_of k + 1
  line_feed k inside is = ap line_after (take_more text k 0 inside) ∙ line_push (take k text) (get_or text k 0) ∙ ap (λ (b : Bool). line_of k + cond b 1 0) is

  pub line_stays : (k : ℕ) → k < length text → is_line_feed (get_or text k 0) ≡ false → line_of (k + 1) ≡ line_of k
  line_stays k inside is =
      ap line_after (take_more text k 0 inside) ∙ line_push (take k text) (get_or text k 0) ∙ ap (λ (b : Bool). line_of k + cond b 1 0) is ∙ omega arith

  pub column_feed : (k : ℕ) → k < length text → is_line_feed (get_or text k 0) ≡ true → column_of (k + 1) ≡ 1
  column_feed k inside is =
      ap column_after (take_more text k 0 inside) ∙ column_push (take k text) (get_or text k 0) ∙ ap (λ (b : Bool). cond (not b) (1 + column_of k) 1) is

  column_more : (k : ℕ) → k < length text → is_line_feed (get_or text k 0) ≡ false → column_of (k + 1) ≡ 1 + column_of k
  column_more k inside is =
      ap column_after (take_more text k 0 inside) ∙ column_push (take k text) (get_or text k 0) ∙ ap (λ (b : Bool). cond (not b) (1 + column_of k) 1) is

  line_next : (k : ℕ) → k < length text → line_of k ≤ line_of (k + 1)
  line_next k inside = elim (cases_Bool (is_line_feed (get_or text k 0))) [
    | inl is ↦ let e = line_feed k inside is in omega arith
    | inr is ↦ let e = line_stays k inside is in omega arith
  ]

  lines_grow : (i d : ℕ) → i + d ≤ length text → line_of i ≤ line_of (i + d)
  lines_grow i zero inside = let e : i + 0 ≡ i = omega arith in let same = ap line_of e in omega arith
  lines_grow i (suc d) inside =
      let before = lines_grow i d (omega arith) in
      let next = line_next (i + d) (omega arith) in
      let e : i + suc d ≡ i + d + 1 = omega arith in
      let same = ap line_of e in omega arith

  -- in one line, columns count the bytes after its beginning
  column_along : (i d : ℕ) → i + d ≤ length text → column_of i ≡ 1 → line_of (i + d) ≡ line_of i → column_of (i + d) ≡ 1 + d
  column_along i zero inside begins same = let e : i + 0 ≡ i = omega arith in let on = ap column_of e in omega arith
  column_along i (suc d) inside begins same =
      let e : i + suc d ≡ i + d + 1 = omega arith in
      let on = ap column_of e in
      let line = ap line_of e in
      let grown = lines_grow i d (omega arith) in
      let room : i + d < length text = omega arith in
      elim (cases_Bool (is_line_feed (get_or text (i + d) 0))) [
        | inl is ↦ let more = line_feed (i + d) room is in absurd (omega arith)
        | inr is ↦
            let stays = line_stays (i + d) room is in
            let more = column_more (i + d) room is in
            let before = column_along i d (omega arith) begins (omega arith) in
            omega arith
      ]

  -- a byte at hand is not after a place, its line is known, and the place's line begins no earlier
  pub record IsOnTheWay (i line at : ℕ) : Type 0 where
    pub ahead : i ≤ at
    pub counted : line ≡ line_of i
    pub begins : line_of i ≡ line_of at → column_of i ≡ 1

  pub way_begins : (at : ℕ) → IsOnTheWay 0 1 at
  way_begins at = record { ahead = omega arith; counted = refl; begins = λ e. refl }

  module _ (i at : ℕ) (room : i < length text) (inside : at ≤ length text) where
    -- past a line feed, and past another byte, while the place is in a later line
    pub way_feed : (line more : ℕ) → IsOnTheWay i line at → (line ≡ line_of at → ⊥) → is_line_feed (get_or text i 0) ≡ true → more ≡ line + 1 → IsOnTheWay (i + 1) more at
    way_feed line more way other is next = record {
      ahead = ahead;
      counted = let w = way.counted in let e = line_feed i room is in omega arith;
      begins = λ e. column_feed i room is;
    }
      where
        ahead : i + 1 ≤ at
        ahead = later i at way.ahead (λ e. other (way.counted ∙ ap line_of e))
          where
            later : (a b : ℕ) → a ≤ b → (a ≡ b → ⊥) → a + 1 ≤ b
            later a b le ne = omega (arith, ne)

    pub way_stays : (line : ℕ) → IsOnTheWay i line at → (line ≡ line_of at → ⊥) → is_line_feed (get_or text i 0) ≡ false → IsOnTheWay (i + 1) line at
    way_stays line way other is = record {
      ahead = ahead;
      counted = let w = way.counted in let e = line_stays i room is in omega arith;
      begins = λ e. absurd (other (way.counted ∙ sym (line_stays i room is) ∙ e));
    }
      where
        ahead : i + 1 ≤ at
        ahead = later i at way.ahead (λ e. other (way.counted ∙ ap line_of e))
          where
            later : (a b : ℕ) → a ≤ b → (a ≡ b → ⊥) → a + 1 ≤ b
            later a b le ne = omega (arith, ne)

    -- the line of the byte at hand is below the last number
    pub way_bound : (line : ℕ) → IsOnTheWay i line at → line ≤ line_of at
    way_bound line way = bound (at - i) (let a = way.ahead in omega arith)
      where
        bound : (d : ℕ) → i + d ≡ at → line ≤ line_of at
        bound d e = let w = way.counted in let grown = lines_grow i d (let h = inside in omega arith) in let on = ap line_of e in omega arith

  -- in the line of the place, it is as many bytes on as its column says
  pub way_ends : (i line at : ℕ) → at ≤ length text → IsOnTheWay i line at → line ≡ line_of at → i + (column_of at - 1) ≡ at
  way_ends i line at inside way same = end (at - i) (let a = way.ahead in omega arith)
    where
      end : (d : ℕ) → i + d ≡ at → i + (column_of at - 1) ≡ at
      end d e =
          let on = ap line_of e in
          let here = sym way.counted ∙ same in
          let along = column_along i d (let h = inside in omega arith) (way.begins here) (on ∙ sym here) in
          let col = ap column_of e in
          omega arith
