-- What the place of a state's rows says of them.
use Rattle.std.proofs.Common.{◌≡◌, ℕ, zero, suc, ◌+◌, ◌-◌, ◌≤◌, ◌<◌, Bool, true, false, cond, List, [], ◌∷◌, length, take, drop, refl, sym, ap, ◌∙◌, ⊎_elim, arith, ◌&&◌, Some, None}
use Rattle.std.specs.Prelude.{◌==◌, bit_and, nat_le, nat_lt, slice_get, slice_range}
use Rattle.std.proofs.lemmas.Bool.{false≢true, and_parts, and_from, and_left, and_right, cases_lt, cond-false, eqb-true, eq-eqb, le-leb, lt-leb, lt-ltb, le-ltb, leb-true, ltb-true}
use Rattle.std.proofs.lemmas.List.{length-drop}
use Rattle.std.proofs.lemmas.Option.{same_Some}
use Rattle.ps_rows.specs.declared.mask_row.MaskRow.{MaskRow}
use Rattle.ps_rows.specs.declared.mask_row.RowRange.{RowRange}
use Rattle.ps_model.specs.declared.kind.Kind.{Kind}
use Rattle.ps_model.specs.Stored.{is_state}
use Rattle.ps_rows.proofs.Choices.{of_states}
use Rattle.ps_rows.specs.Fitting.{fits, first_fit, first_match, HoldsExactly}
use Rattle.ps_rows.specs.Placed.{same, each_placed, is_placed}

equal : (a b : Bool) → same a b ≡ true → a ≡ b
equal true b h = sym h
equal false true h = absurd (false≢true h)
equal false false h = refl

none_some : {X : Type 0} (x : X) → None ≡ Some x → ⊥
none_some x h = cc

module _ (q : ℕ) (range : RowRange) where
  -- the row at place j
  row_placed : (j : ℕ) (r : MaskRow) (rows : List MaskRow) → each_placed j (r ∷ rows) q range ≡ true →
      (r.state == q) ≡ (nat_le range.from j && nat_lt j range.upto)
  row_placed j r rows h = equal (r.state == q) (nat_le range.from j && nat_lt j range.upto) (and_parts _ _ h).0

  row_of : (j : ℕ) (r : MaskRow) (rows : List MaskRow) → each_placed j (r ∷ rows) q range ≡ true → range.from ≤ j → j < range.upto → (r.state == q) ≡ true
  row_of j r rows h low high = row_placed j r rows h ∙ and_from _ _ (le-leb range.from j low) (lt-ltb j range.upto high)

  before : (j : ℕ) (r : MaskRow) (rows : List MaskRow) → each_placed j (r ∷ rows) q range ≡ true → j < range.from → (r.state == q) ≡ false
  before j r rows h low = row_placed j r rows h ∙ and_left _ _ (lt-leb range.from j low)

  behind : (j : ℕ) (r : MaskRow) (rows : List MaskRow) → each_placed j (r ∷ rows) q range ≡ true → range.upto ≤ j → (r.state == q) ≡ false
  behind j r rows h high = row_placed j r rows h ∙ and_right _ _ (le-ltb j range.upto high)

  -- the rows from place n on
  placed_after_drop : (n j : ℕ) (rows : List MaskRow) → each_placed j rows q range ≡ true → each_placed (j + n) (drop n rows) q range ≡ true
  placed_after_drop zero j rows h = let e : j + zero ≡ j = omega arith in ap (λ i. each_placed i rows q range) e ∙ h
  placed_after_drop (suc n) j [] h = refl
  placed_after_drop (suc n) j (r ∷ rows) h =
      let e : j + suc n ≡ j + 1 + n = omega arith in
      ap (λ i. each_placed i (drop n rows) q range) e ∙ placed_after_drop n (j + 1) rows (and_parts _ _ h).1

  -- a row of another state does not fit
  other_state_passes : (c : ℕ) (r : MaskRow) (rows : List MaskRow) → (r.state == q) ≡ false → first_fit (r ∷ rows) q c ≡ first_fit rows q c
  other_state_passes c r rows e = cond-false (fits q c r) (Some (r.next, r.action)) (first_fit rows q c) (and_left (r.state == q) (bit_and c r.care == r.value) e)

  skips : (n j c : ℕ) (rows : List MaskRow) → each_placed j rows q range ≡ true → j + n ≤ range.from → first_fit rows q c ≡ first_fit (drop n rows) q c
  skips zero j c rows h low = refl
  skips (suc n) j c [] h low = refl
  skips (suc n) j c (r ∷ rows) h low =
      other_state_passes c r rows (before j r rows h (omega arith)) ∙ skips n (j + 1) c rows (and_parts _ _ h).1 (omega arith)

  none_behind : (j c : ℕ) (rows : List MaskRow) → each_placed j rows q range ≡ true → range.upto ≤ j → first_fit rows q c ≡ None
  none_behind j c [] h high = refl
  none_behind j c (r ∷ rows) h high =
      other_state_passes c r rows (behind j r rows h high) ∙ none_behind (j + 1) c rows (and_parts _ _ h).1 (omega arith)

  fit_inside : (n j c : ℕ) (rows : List MaskRow) → each_placed j rows q range ≡ true → range.from ≤ j → j + n ≡ range.upto → n ≤ length rows →
      first_fit rows q c ≡ first_match (take n rows) c
  fit_inside zero j c rows h low e few = none_behind j c rows h (omega arith)
  fit_inside (suc n) j c [] h low e few = absurd (omega arith)
  fit_inside (suc n) j c (r ∷ rows) h low e few =
      let m = bit_and c r.care == r.value in
      ap (λ b. cond (b && m) (Some (r.next, r.action)) (first_fit rows q c)) (row_of j r rows h low (omega arith))
      ∙ ap (cond m (Some (r.next, r.action))) (fit_inside n (j + 1) c rows (and_parts _ _ h).1 (omega arith) (omega arith) (omega arith))

  -- a range that is not empty has a row of the state
  pub of_a_state : (kind : Kind) (j : ℕ) (rows : List MaskRow) → of_states rows kind ≡ true → each_placed j rows q range ≡ true →
      j ≤ range.from → range.from < range.upto → range.upto ≤ j + length rows → is_state kind q ≡ true
  of_a_state kind j [] w h low some few = absurd (omega arith)
  of_a_state kind j (r ∷ rows) w h low some few =
      ⊎_elim
      (λ less. of_a_state kind (j + 1) rows (and_parts _ _ w).1 (and_parts _ _ h).1 (omega arith) some (omega arith))
      (λ here. ap (is_state kind) (sym (eqb-true r.state q (row_of j r rows h here (omega arith)))) ∙ (and_parts _ _ w).0)
      (cases_lt j range.from)

  -- ---- The search over the range.
  module _ (rows : List MaskRow) (placed : is_placed rows q range ≡ true) where
    pub not_empty : range.from < range.upto
    not_empty = ltb-true range.from range.upto (and_parts _ _ placed).0

    pub within : range.upto ≤ length rows
    within = leb-true range.upto (length rows) (and_parts _ _ (and_parts _ _ placed).1).0

    each_in_place : each_placed 0 rows q range ≡ true
    each_in_place = (and_parts _ _ (and_parts _ _ placed).1).1

    pub fit_from_range : (c : ℕ) → first_fit rows q c ≡ first_fit (drop range.from rows) q c
    fit_from_range c = skips range.from 0 c rows each_in_place (omega arith)

    pub fit_in_range : (c : ℕ) → first_fit rows q c ≡ first_match (slice_range rows range.from range.upto) c
    fit_in_range c =
        fit_from_range c
        ∙ fit_inside (range.upto - range.from) (0 + range.from) c (drop range.from rows) (placed_after_drop range.from 0 rows each_in_place) (omega arith) (omega (arith, not_empty))
        (let l = length-drop range.from rows in omega (arith, l, within, not_empty))

    pub holds_state : (kind : Kind) → of_states rows kind ≡ true → is_state kind q ≡ true
    holds_state kind of = of_a_state kind 0 rows of each_in_place (omega arith) not_empty (omega (arith, within))

  -- ---- The range holds exactly the rows of the state.
  exactly_from : (i j : ℕ) (rows : List MaskRow) (r : MaskRow) → each_placed j rows q range ≡ true → slice_get rows i ≡ Some r →
      (r.state == q) ≡ (nat_le range.from (j + i) && nat_lt (j + i) range.upto)
  exactly_from i j [] r h e = absurd (none_some r e)
  exactly_from zero j (x ∷ rows) r h e =
      let j_is : j ≡ j + zero = omega arith in
      ap (λ (y : MaskRow). y.state == q) (sym (same_Some x r e)) ∙ row_placed j x rows h ∙ ap (λ k. nat_le range.from k && nat_lt k range.upto) j_is
  exactly_from (suc i) j (x ∷ rows) r h e =
      let j_is : j + 1 + i ≡ j + suc i = omega arith in
      exactly_from i (j + 1) rows r (and_parts _ _ h).1 e ∙ ap (λ k. nat_le range.from k && nat_lt k range.upto) j_is

  pub holds_exactly : (rows : List MaskRow) → is_placed rows q range ≡ true → HoldsExactly rows q range
  holds_exactly rows placed j r e =
      let same = exactly_from j 0 rows r (each_in_place rows placed) e in (
        λ is. let both = and_parts (nat_le range.from (0 + j)) (nat_lt (0 + j) range.upto) (sym same ∙ eq-eqb r.state q is) in
            (omega (arith, leb-true range.from (0 + j) both.0), omega (arith, ltb-true (0 + j) range.upto both.1)),
        λ inside. eqb-true r.state q (same ∙ and_from _ _ (le-leb range.from (0 + j) (omega (arith, inside.0))) (lt-ltb (0 + j) range.upto (omega (arith, inside.1)))),
      )
