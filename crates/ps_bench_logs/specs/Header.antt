-- What the header of a log says.
use Rattle.std.specs.Prelude.{ℕ, Bool, not, List, [], ◌∷◌, ◌==◌, ◌&&◌, if◌then◌else◌, codes, length, map, slice_index_or, unwrap_or, Option, Some, None, Result, Ok, Err}
use Rattle.std.specs.List.{filter, filter_map, list_any, range_with_len}
use Rattle.csv.specs.Reading.{strip_bom}
use Rattle.ps_base.specs.LetterCase.{is_same_name}
use Rattle.ps_model.specs.Network.{Network, input_count, signal_name}
use Rattle.ps_bench_logs.specs.Fields.{fields_of}
use Rattle.ps_bench_logs.specs.declared.flaw.Column.{Column}
use Rattle.ps_bench_logs.specs.declared.flaw.Column.TheVariants.{Time, Restart, Input}
use Rattle.ps_bench_logs.specs.declared.flaw.Flaw.{Flaw}
use Rattle.ps_bench_logs.specs.declared.flaw.Flaw.TheVariants.{V1, V2}

-- Where the columns of a log stand, counted from 0: the time, the restarts where it has them, and each input in order of
-- declaration; and how many fields its lines have.
pub record Columns : Type 0 where
  pub width : ℕ
  pub time : ℕ
  pub restart : Option ℕ
  pub inputs : List ℕ

-- there is a quotation mark among these bytes
abbrev pub has_mark : List ℕ → Bool
has_mark bytes = list_any (λ b. b == 34) bytes

-- a field of the header is this name, without letter case; no name has a quotation mark
abbrev pub is_named : (name field : List ℕ) → Bool
is_named name field = not (has_mark field) && is_same_name field name

-- what the column of the time is called in a header: `@time` where it has such a column, and else `time`
abbrev pub time_name : List (List ℕ) → List ℕ
time_name header = if list_any (is_named (codes "@time")) header then codes "@time" else codes "time"

-- a field of the header names a column, where that of the time is called so; what is called so is no input's
abbrev pub names_column : Network → (time : List ℕ) → Column → (field : List ℕ) → Bool
names_column net time Time field = is_named time field
names_column net time Restart field = is_named (codes "@restart") field
names_column net time (Input i) field = is_named (signal_name net i) field && not (is_named time field)

-- the places of the fields that name a column
abbrev pub places_of : Network → List (List ℕ) → Column → List ℕ
places_of net header column =
    filter (λ k. names_column net (time_name header) column (slice_index_or header k []))
    (range_with_len 0 (length header))

-- what is wrong with a column that stands at these places: it is missing, though it has to be there, or it stands twice
abbrev pub flaw_at : Column → List ℕ → Option Flaw
flaw_at Restart [] = None
flaw_at Time [] = Some (V2 Time)
flaw_at (Input i) [] = Some (V2 (Input i))
flaw_at column (k ∷ []) = None
flaw_at column (k ∷ l ∷ places) = Some V1

-- the first of places
abbrev pub first_of : List ℕ → Option ℕ
first_of [] = None
first_of (k ∷ places) = Some k

-- the columns that are looked for, in this order
abbrev pub wanted : Network → List Column
wanted net = Time ∷ Restart ∷ map Input (range_with_len 0 (input_count net))

-- what is wrong with the columns of a header
abbrev pub flaws_of : Network → List (List ℕ) → List Flaw
flaws_of net header = filter_map (λ column. flaw_at column (places_of net header column)) (wanted net)

-- where the columns of a header stand
abbrev pub columns_in : Network → List (List ℕ) → Columns
columns_in net header = record {
  width = length header;
  time = unwrap_or (first_of (places_of net header Time)) 0;
  restart = first_of (places_of net header Restart);
  inputs = map (λ i. unwrap_or (first_of (places_of net header (Input i))) 0) (range_with_len 0 (input_count net));
}

-- the first flaw counts
abbrev pub unless_flawed : List Flaw → Columns → Result Columns Flaw
unless_flawed [] columns = Ok columns
unless_flawed (flaw ∷ flaws) columns = Err flaw

-- what the fields of a header say
abbrev pub names_said : Network → Option (List (List ℕ)) → Result Columns Flaw
names_said net None = Err V1
names_said net (Some header) = unless_flawed (flaws_of net header) (columns_in net header)

-- What a line says as the header of a log: its columns, or what it is refused for. A byte order mark before it does not
-- count.
abbrev pub header_said : Network → List ℕ → Result Columns Flaw
header_said net line = names_said net (fields_of (strip_bom line))
