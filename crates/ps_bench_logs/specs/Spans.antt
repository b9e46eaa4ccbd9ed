-- Where the code has the fields of a line.
use Rattle.std.specs.Prelude.{◌≡◌, ◌⊎◌, ◌<◌, ◌≤◌, ℕ, true, if◌then◌else◌, codes, List, [], ◌∷◌, length, take, drop, slice_index_or, map, unwrap_or, Option, Some, None, option_map, Result, Ok, Err}
use Rattle.std.specs.List.{cons_option, filter, filter_map, list_any, range_with_len}
use Rattle.ps_model.specs.Network.{Network, input_count}
use Rattle.ps_bench_logs.specs.Fields.{Place, fields_from, fields_of, onto}
use Rattle.ps_bench_logs.specs.Fields.Place.{begins, quoted}
use Rattle.ps_bench_logs.specs.Header.{Columns, first_of, flaw_at, has_mark, is_named, names_column, unless_flawed}
use Rattle.ps_bench_logs.specs.declared.fields.Field.{Field}
use Rattle.ps_bench_logs.specs.declared.fields.Span.{Span}
use Rattle.ps_bench_logs.specs.declared.fields.Step.{Step}
use Rattle.ps_bench_logs.specs.declared.fields.Step.TheVariants.{Byte, Close, Broken}
use Rattle.ps_bench_logs.specs.declared.flaw.Column.{Column}
use Rattle.ps_bench_logs.specs.declared.flaw.Column.TheVariants.{Time, Restart, Input}
use Rattle.ps_bench_logs.specs.declared.flaw.Flaw.{Flaw}

-- the bytes of a line at a span
abbrev pub part_of : List ℕ → Span → List ℕ
part_of line span = take span.size (drop span.from line)

-- no byte
abbrev pub nowhere : Span
nowhere = record { from = 0; size = 0 }

-- the bytes of the field of this number
abbrev pub part_at : List ℕ → List Span → ℕ → List ℕ
part_at line spans k = part_of line (slice_index_or spans k nowhere)

-- bytes show a field: they are it, or both have quotation marks
abbrev pub Shows : (bytes field : List ℕ) → Type 0
Shows bytes field = (bytes ≡ field) ⊎ ((has_mark bytes ≡ true) × (has_mark field ≡ true))

-- what the fields of a line are, of which the first is this one and the others stand in the rest, after a comma
abbrev pub fields_with : (field rest : List ℕ) → Option (List (List ℕ))
fields_with field [] = Some (field ∷ [])
fields_with field (comma ∷ rest) = option_map (λ fields. field ∷ fields) (fields_from begins rest)

-- A field whose first byte stands at this place of a line, and those after it: a field ends before a comma or with the
-- line.
pub record IsFieldFrom (place : Place) (line : List ℕ) (at : ℕ) (found : Field) : Type 0 where
  pub field : List ℕ
  pub is : fields_from place (drop at line) ≡ fields_with field (drop found.end line)
  pub shown : Shows (part_of line found.span) field
  pub behind : at ≤ found.end
  pub within : found.end ≤ length line

-- what bytes begin with between quotation marks: a byte of the field, for which one or two stand, the mark that closes
-- the field, or none of these
abbrev pub Steps : List ℕ → Step → Type 0
Steps bytes (Byte size) =
    (b : ℕ) × (0 < size) × (size ≤ length bytes)
    × (fields_from quoted bytes ≡ onto b (fields_from quoted (drop size bytes)))
    × ((take size bytes ≡ b ∷ []) ⊎ ((b ≡ 34) × (has_mark (take size bytes) ≡ true)))
Steps bytes Close = (0 < length bytes) × (fields_from quoted bytes ≡ fields_with [] (drop 1 bytes))
Steps bytes Broken = fields_from quoted bytes ≡ None

-- these are the fields of a line: as many, and those that the spans have room for are shown by them
pub record IsCut (line : List ℕ) (spans : List Span) (count : ℕ) (fields : List (List ℕ)) : Type 0 where
  pub are : fields_of line ≡ Some fields
  pub counted : length fields ≡ count
  pub shown : (k : ℕ) → k < count → k < length spans → Shows (part_at line spans k) (slice_index_or fields k [])

-- what the column of the time is called, by the parts of a header
abbrev pub time_part : (line : List ℕ) → List Span → List ℕ
time_part line spans =
    if list_any (λ span. is_named (codes "@time") (part_of line span)) spans then codes "@time" else codes "time"

-- the places of the parts of a header that name a column, where that of the time is called so
abbrev pub parts_named : Network → (time line : List ℕ) → List Span → Column → List ℕ
parts_named net time line spans column =
    filter (λ k. names_column net time column (part_at line spans k)) (range_with_len 0 (length spans))

-- where a column stands, or what is wrong with it
abbrev pub unless_flaw : Option Flaw → Option ℕ → Result (Option ℕ) Flaw
unless_flaw None place = Ok place
unless_flaw (Some flaw) place = Err flaw

-- the same of a column
abbrev pub placed : Column → (places : List ℕ) → Result (Option ℕ) Flaw
placed column places = unless_flaw (flaw_at column places) (first_of places)

-- what is wrong with these inputs, where columns stand at these places
abbrev pub input_flaws : (places : Column → List ℕ) → (inputs : List ℕ) → List Flaw
input_flaws places inputs = filter_map (λ column. flaw_at column (places column)) (map Input inputs)

-- where the columns of these inputs stand
abbrev pub input_places : (places : Column → List ℕ) → (inputs : List ℕ) → List ℕ
input_places places inputs = map (λ i. unwrap_or (first_of (places (Input i))) 0) inputs

-- what is said of a header of so many fields, where columns stand at these places
abbrev pub said_by_places : Network → (width : ℕ) → (places : Column → List ℕ) → Result Columns Flaw
said_by_places net width places =
    unless_flawed
    (cons_option (flaw_at Time (places Time)) (cons_option (flaw_at Restart (places Restart))
    (input_flaws places (range_with_len 0 (input_count net)))))
    (record {
      width = width;
      time = unwrap_or (first_of (places Time)) 0;
      restart = first_of (places Restart);
      inputs = input_places places (range_with_len 0 (input_count net));
    })

-- what is said of a header by its parts
abbrev pub parts_said : Network → (line : List ℕ) → List Span → Result Columns Flaw
parts_said net line spans = said_by_places net (length spans) (parts_named net (time_part line spans) line spans)

-- what is said of a header with so many fields by an answer, with the places of inputs aside
abbrev pub found_by : (width : ℕ) → (inputs : List ℕ) → Result (ℕ × Option ℕ) Flaw → Result Columns Flaw
found_by width inputs (Ok (time, restart)) =
    Ok (record { width = width; time = time; restart = restart; inputs = inputs })
found_by width inputs (Err flaw) = Err flaw
