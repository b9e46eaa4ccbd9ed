-- The conditions of a step by the places of its named ones.
use Rattle.std.specs.Prelude.{ℕ, Bool, false, List, ◌&&◌, not, slice_index_or}
use Rattle.ps_model.specs.Table.{Conditions}

-- the named condition at a place; FALSE after the last one
abbrev pub on : List Bool → ℕ → Bool
on bs j = slice_index_or bs j false

-- the place of a condition that a kind does not name
abbrev pub nowhere : ℕ
nowhere = 31

-- pins at their own places, then Reset now and in the last step, the auxiliary input now and in the last step, and `elapsed`
abbrev pub seen_at : (reset last_reset auxiliary last_auxiliary elapsed : ℕ) → List Bool → Conditions
seen_at reset last_reset auxiliary last_auxiliary elapsed bs = record {
  pin = on bs;
  edge = on bs reset && not (on bs last_reset);
  static = on bs reset && on bs last_reset;
  rise = on bs auxiliary && not (on bs last_auxiliary);
  elapsed = on bs elapsed;
  modes = 0;
  exact = false;
}

abbrev pub as_chosen : List Bool → List Bool
as_chosen bs = bs
