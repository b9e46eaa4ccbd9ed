-- What a line after the header says.
use Rattle.std.specs.Prelude.{ℕ, Bool, false, not, List, [], ◌∷◌, ◌==◌, nat_lt, if◌then◌else◌, length, map, slice_index_or, is_some, unwrap_or, Option, Some, None}
use Rattle.std.specs.List.{list_all}
use Rattle.ps_trace.specs.Words.{number_of}
use Rattle.ps_bench_names.specs.Names.{truth_of}
use Rattle.ps_bench_logs.specs.Fields.{fields_of}
use Rattle.ps_bench_logs.specs.Header.{Columns}
use Rattle.ps_bench_logs.specs.declared.flaw.Flaw.{Flaw}
use Rattle.ps_bench_logs.specs.declared.flaw.Flaw.TheVariants.{V1, V3, V4}

-- What a line after the header says: nothing, where it is empty; a scan, with its time in ms, whether it is the first
-- after a restart, and the values of the inputs in order of declaration; or it is refused.
pub data Said : Type 0 where
  skips : Said
  scans : (now : ℕ) (is_restarted : Bool) (ins : List Bool) → Said
  breaks : Flaw → Said

-- the field at a place
abbrev pub field_at : List (List ℕ) → ℕ → List ℕ
field_at fields k = slice_index_or fields k []

-- the value at a place
abbrev pub value_at : List (List ℕ) → ℕ → Option Bool
value_at fields k = truth_of (field_at fields k)

-- whether a scan is the first after a restart: a log that has no column for it has no restarts
abbrev pub restart_at : List (List ℕ) → Option ℕ → Option Bool
restart_at fields None = Some false
restart_at fields (Some k) = value_at fields k

-- the values at places
abbrev pub values_at : List (List ℕ) → List ℕ → List Bool
values_at fields places = map (λ k. unwrap_or (value_at fields k) false) places

-- there is a value at each of these places
abbrev pub are_values : List (List ℕ) → List ℕ → Bool
are_values fields places = list_all (λ k. is_some (value_at fields k)) places

-- a scan at this time, where the one before was at `last`
abbrev pub scan_said : (last : ℕ) → Option ℕ → Option Bool → List Bool → Said
scan_said last None is_restarted ins = breaks V3
scan_said last (Some now) None ins = breaks V3
scan_said last (Some now) (Some is_restarted) ins = if nat_lt now last then breaks V4 else scans now is_restarted ins

-- what the fields of a row say
abbrev pub row_said : Columns → (last : ℕ) → List (List ℕ) → Said
row_said columns last fields =
    if not (length fields == columns.width) then breaks V1
    else if not (are_values fields columns.inputs) then breaks V3
    else scan_said last (number_of (field_at fields columns.time)) (restart_at fields columns.restart)
    (values_at fields columns.inputs)

-- the same, of a line that may not have the form
abbrev pub fields_said : Columns → (last : ℕ) → Option (List (List ℕ)) → Said
fields_said columns last None = breaks V1
fields_said columns last (Some fields) = row_said columns last fields

-- what a line says
abbrev pub line_said : Columns → (last : ℕ) → List ℕ → Said
line_said columns last [] = skips
line_said columns last (b ∷ line) = fields_said columns last (fields_of (b ∷ line))
