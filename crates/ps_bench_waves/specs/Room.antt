-- Columns as the code has them, a line in the room that was taken for it, and the room that suffices.
use Rattle.std.specs.Prelude.{◌≡◌, ℕ, ◌+◌, Bool, List, length, map, sum_by}
use Rattle.ps_bench_waves.specs.Fields.{in_next}
use Rattle.ps_bench_judge.specs.Moments.{Moment}
use Rattle.ps_bench_judge.specs.Named.{value_in}
use Rattle.ps_model.specs.Network.{Network}
use Rattle.ps_bench_waves.specs.Lines.{Cell, key_text}
use Rattle.ps_bench_waves.specs.declared.column.Column.{Column}
use Rattle.ps_bench_waves.specs.declared.format.Format.{Format}

-- the most bytes of a column beside what stands for its name
abbrev pub column_room : ℕ
column_room = 140

-- the most bytes of a line beside its columns
abbrev pub frame_room : ℕ
frame_room = 80

-- the bytes that suffice for columns
abbrev pub columns_room : List Column → ℕ
columns_room columns = sum_by (λ (c : Column). length c.key + column_room) columns

-- a column as a line shows it
abbrev pub cell_of : Column → Cell
cell_of c = record { name = c.name; before = c.field.before; value = c.field.value }

-- columns as a line shows them
abbrev pub cells_of : List Column → List Cell
cells_of columns = map cell_of columns

-- a column has what stands for its name
abbrev pub IsKeyed : Format → Network → Column → Type 0
IsKeyed format net c = c.key ≡ key_text format net c.name

-- a column in the next scan, which is or is not a first one
abbrev pub renewed : Network → (is_first : Bool) → Moment → Column → Column
renewed net is_first m c = record {
  name = c.name;
  key = c.key;
  field = in_next is_first (value_in net m c.name) c.field;
}
