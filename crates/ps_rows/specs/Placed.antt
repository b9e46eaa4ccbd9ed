-- The place of a state's rows, as a test that is computed.
use Rattle.std.specs.Prelude.{ℕ, ◌+◌, Bool, true, List, [], ◌∷◌, ◌&&◌, ◌==◌, not, nat_le, nat_lt, length, if◌then◌else◌}
use Rattle.ps_rows.specs.declared.mask_row.MaskRow.{MaskRow}
use Rattle.ps_rows.specs.declared.mask_row.RowRange.{RowRange}

-- two truth values are the same
abbrev pub same : Bool → Bool → Bool
same a b = if a then b else not b

-- each row, the first at place j, is of state q just where its place is in the range
abbrev pub each_placed : ℕ → List MaskRow → ℕ → RowRange → Bool
each_placed j [] q range = true
each_placed j (r ∷ rows) q range = same (r.state == q) (nat_le range.from j && nat_lt j range.upto) && each_placed (j + 1) rows q range

-- The range is within the rows and not empty, and it holds the rows of state q and no other.
abbrev pub is_placed : List MaskRow → ℕ → RowRange → Bool
is_placed rows q range = nat_lt range.from range.upto && (nat_le range.upto (length rows) && each_placed 0 rows q range)
