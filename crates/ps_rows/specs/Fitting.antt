-- Mask rows: which row fits, what the first that fits gives, and where the rows of a state stand. Profile.
use Rattle.std.specs.Prelude.{◌≡◌, ℕ, ◌≤◌, ◌<◌, ◌↔◌, List, [], ◌∷◌, Bool, ◌&&◌, ◌==◌, if◌then◌else◌, bit_and, length}
use Rattle.std.specs.Prelude.{slice_get, Option, Some, None}
use Rattle.ps_rows.specs.declared.mask_row.MaskRow.{MaskRow}
use Rattle.ps_rows.specs.declared.mask_row.RowRange.{RowRange}

-- A row fits in its state where the conditions that it looks at have its value.
abbrev pub fits : ℕ → ℕ → MaskRow → Bool
fits q c r = r.state == q && bit_and c r.care == r.value

-- The next state and the action of the first row that fits.
abbrev pub first_fit : List MaskRow → ℕ → ℕ → Option (ℕ × ℕ)
first_fit [] q c = None
first_fit (r ∷ rows) q c = if fits q c r then Some (r.next, r.action) else first_fit rows q c

-- The same among rows of one state, whose state needs no look.
abbrev pub first_match : List MaskRow → ℕ → Option (ℕ × ℕ)
first_match [] c = None
first_match (r ∷ rows) c = if bit_and c r.care == r.value then Some (r.next, r.action) else first_match rows c

-- The range holds exactly the rows of state q.
abbrev pub HoldsExactly : List MaskRow → ℕ → RowRange → Type 0
HoldsExactly rows q range =
    (j : ℕ) (r : MaskRow) → slice_get rows j ≡ Some r → (r.state ≡ q) ↔ ((range.from ≤ j) × (j < range.upto))

-- The range has a row, and it ends within the rows.
abbrev pub IsRangeOf : List MaskRow → RowRange → Type 0
IsRangeOf rows range = (range.from < range.upto) × (range.upto ≤ length rows)
