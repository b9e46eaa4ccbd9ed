-- What a reader of a run's CSV is to see of its scans, and what it gives of a text.
use Rattle.std.specs.Prelude.{ℕ, ◌==◌, Bool, true, false, List, [], ◌∷◌, Option, Some, None, map}
use Rattle.std.specs.Str.Parse.{digits_value}
use Rattle.csv.specs.Reading.{default_config, records}
use Rattle.ps_bench_names.specs.declared.name.Name.{Name}
use Rattle.ps_bench_judge.specs.Moments.{Moment, is_stopped}
use Rattle.ps_bench_judge.specs.Named.{value_in}
use Rattle.ps_model.specs.Meaning.{Item}
use Rattle.ps_model.specs.Meaning.Item.{scan, restart}
use Rattle.ps_model.specs.Network.{Network}

-- A scan: its time in ms, whether it is the first after a restart, whether it tripped or is down, and the values of
-- the names, of a Boolean 0 or 1.
pub record Row : Type 0 where
  pub now : ℕ
  pub is_restarted : Bool
  pub is_stopped : Bool
  pub values : List ℕ

-- a scan as it was watched
abbrev pub row_seen : Network → List Name → (is_restarted : Bool) → Moment → Row
row_seen net names is_restarted m = record {
  now = m.now;
  is_restarted = is_restarted;
  is_stopped = is_stopped m.verdict;
  values = map (value_in net m) names;
}

-- the scans among items, of which this is seen
abbrev pub rows_seen : Network → List Name → (is_restarted : Bool) → List Item → List Moment → List Row
rows_seen net names is_restarted [] ms = []
rows_seen net names is_restarted (restart ∷ items) ms = rows_seen net names true items ms
rows_seen net names is_restarted (scan now ins ∷ items) [] = []
rows_seen net names is_restarted (scan now ins ∷ items) (m ∷ ms) =
    row_seen net names is_restarted m ∷ rows_seen net names false items ms

-- ---- The reader.

-- what the fields of a record say: a time in decimal digits, two truth values as 0 or 1, and values in hexadecimal
-- digits
abbrev pub row_read : List (List ℕ) → Option Row
row_read [] = None
row_read (time ∷ []) = None
row_read (time ∷ restarted ∷ []) = None
row_read (time ∷ restarted ∷ stopped ∷ values) = Some (record {
  now = digits_value 10 time;
  is_restarted = digits_value 10 restarted == 1;
  is_stopped = digits_value 10 stopped == 1;
  values = map (digits_value 16) values;
})

-- a table: the names of its columns, and its rows
pub record Table : Type 0 where
  pub names : List (List ℕ)
  pub rows : List (Option Row)

-- the table of records, of which the first has the names of the columns
abbrev pub table_of : List (List (List ℕ)) → Option Table
table_of [] = None
table_of (names ∷ rows) = Some (record { names = names; rows = map row_read rows })

-- the table that a text of CSV is
abbrev pub table_read : (text : List ℕ) → Option Table
table_read text = table_of (records default_config text)
