-- One cell that is kept in bits.
use Rattle.std.proofs.Common.{inl, inr, ◌≡◌, ◌≢◌, ℕ, ◌<◌, List, length, sym, ap, ◌∙◌, arith, zero-add, get_or}
use Rattle.std.specs.Prelude.{slice_set, slice_index}
use Rattle.std.proofs.lemmas.Bool.{cases_eq}
use Rattle.std.proofs.lemmas.List.{get_or-set_same, get_or-set_other, same_lists, length-set}
use Rattle.std.proofs.lemmas.List.FromFn.{length-map-range_with_len, get_or-map-range_with_len}
use Rattle.ps_eqvm.specs.Bits.{plain_cell, plain_cells}

-- one cell is new, and every other one as before
pub cells_set : (value value' odd odd' counted counted' : List ℕ) (i b : ℕ) → length counted' ≡ length counted → i < length counted →
    plain_cell value' odd' counted' i ≡ b →
    ((j : ℕ) → j ≢ i → plain_cell value' odd' counted' j ≡ plain_cell value odd counted j) →
    plain_cells value' odd' counted' ≡ slice_set (plain_cells value odd counted) i b
cells_set value value' odd odd' counted counted' i b size within is same =
    let n = length counted in
    let n' = length counted' in
    let old = plain_cells value odd counted in
    let new = plain_cells value' odd' counted' in
    let ln : length new ≡ n' = length-map-range_with_len (plain_cell value' odd' counted') 0 n' in
    let lo : length old ≡ n = length-map-range_with_len (plain_cell value odd counted) 0 n in
    let ls = length-set old i b in
    same_lists new (slice_set old i b) (ln ∙ size ∙ sym lo ∙ sym ls) (λ k d low.
    let low' : k < n = omega arith in
    let low'' : k < n' = omega arith in
    let at = get_or-map-range_with_len (plain_cell value' odd' counted') 0 n' k k d low'' (zero-add k) in
    elim (cases_eq k i) [
      | inl mine ↦ at ∙ ap (plain_cell value' odd' counted') mine ∙ is ∙ sym (get_or-set_same old i b d (omega arith)) ∙ ap (λ x. get_or (slice_set old i b) x d) (sym mine)
      | inr other ↦ at ∙ same k other ∙ sym (get_or-map-range_with_len (plain_cell value odd counted) 0 n k k d low' (zero-add k)) ∙ sym (get_or-set_other old i k b d other)
    ])

pub cell_at : (value odd counted l : List ℕ) (i : ℕ) → plain_cells value odd counted ≡ l → i < length l → (i < length counted) × (slice_index l i ≡ plain_cell value odd counted i)
cell_at value odd counted l i is within =
    let len = length-map-range_with_len (plain_cell value odd counted) 0 (length counted) in
    let low : i < length counted = omega (arith, ap length is) in
    (low, ap (λ x. slice_index x i) (sym is) ∙ get_or-map-range_with_len (plain_cell value odd counted) 0 (length counted) i i 0 low (zero-add i))
