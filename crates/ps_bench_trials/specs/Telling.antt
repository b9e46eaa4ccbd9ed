-- The counts as text: a line for each channel, region and outcome that has a trial.
use Rattle.std.specs.Prelude.{ℕ, Bool, List, [], ◌++◌, ◌==◌, ◌&&◌, ◌%◌, codes, decimal, if◌then◌else◌, nat_lt}
use Rattle.std.specs.Prelude.{slice_index, slice_index_or}
use Rattle.std.specs.List.{flat_map, range_with_len}
use Rattle.ps_bench_trials.specs.declared.line.Line.{Line}
use Rattle.ps_bench_trials.specs.declared.line.TheConstants.{FLOORS}
use Rattle.ps_bench_trials.specs.Lines.{no_trial}

-- a column of a table, by its least latency and how many trips are of it: nothing where none is
abbrev pub column_text : (table : List ℕ) → (column : ℕ) → List ℕ
column_text table column =
    if slice_index table column == 0 then []
    else codes " " ++ decimal (slice_index FLOORS column) ++ codes ":" ++ decimal (slice_index table column)

-- the columns of a table
unfoldable pub columns_text : (table : List ℕ) → List ℕ
columns_text table = flat_map (column_text table) (range_with_len 0 33)

-- the latencies of the trips of a line
unfoldable pub latencies_text : Line → List ℕ
latencies_text l =
    codes " sum " ++ decimal l.sum ++ codes " largest " ++ decimal l.largest ++ codes " table" ++ columns_text l.table

-- whether the line of a place counts trips: of each six lines the first is of silent trials, and the last of wrong ones
abbrev pub is_of_trips : (place : ℕ) → Bool
is_of_trips place = nat_lt 0 (place % 6) && nat_lt (place % 6) 5

-- what is told of a line after its count
abbrev pub counts_text : Line → (place : ℕ) → List ℕ
counts_text l place = if is_of_trips place then latencies_text l else []

-- the word of a channel, of a region and of an outcome, by the place of a line
abbrev pub channel_text : (place : ℕ) → List ℕ
channel_text place = if nat_lt place 12 then codes "A " else codes "B "

-- the region that the count at a place is of
abbrev pub region_text : (place : ℕ) → List ℕ
region_text place = if nat_lt (place % 12) 6 then codes "code " else codes "memory "

-- the outcome that the count at a place is of
abbrev pub outcome_text : (place : ℕ) → List ℕ
outcome_text place =
    if (place % 6) == 0 then codes "silent " else if (place % 6) == 1 then codes "differ "
    else if (place % 6) == 2 then codes "stuck " else if (place % 6) == 3 then codes "trap "
    else if (place % 6) == 4 then codes "report " else codes "wrong "

-- what a line is called
unfoldable pub name_text : (place : ℕ) → List ℕ
name_text place = channel_text place ++ region_text place ++ outcome_text place

-- the line of a place: nothing where it has no trial
unfoldable pub line_text : Line → (place : ℕ) → List ℕ
line_text l place =
    if l.count == 0 then []
    else name_text place ++ decimal l.count ++ counts_text l place ++ codes "\n"

-- all lines
unfoldable pub tally_text : List Line → List ℕ
tally_text lines = flat_map (λ place. line_text (slice_index_or lines place no_trial) place) (range_with_len 0 24)
