-- The case of a rule that is met.
use Rattle.std.specs.Prelude.{ℕ, ◌-◌, ◌*◌, ◌==◌, Bool, true, false, not, List, [], ◌++◌, codes, decimal, length, nat_le, if◌then◌else◌, slice_index_or}
use Rattle.std.specs.List.{filter, flat_map, list_any, range_with_len}
use Rattle.ps_base.specs.declared.limits.TheConstants.{LARGEST_TIME}
use Rattle.ps_bench_frame.specs.Pieces.{count_text}
use Rattle.ps_model.specs.Network.{Network}
use Rattle.ps_bench_never.specs.Pieces.{condition_text, signal_text}
use Rattle.ps_bench_rules.specs.declared.rules.Condition.{Condition}

-- an input takes a value, as ` S_L=1`
abbrev pub set_text : Network → ℕ → Bool → List ℕ
set_text net i value = codes " " ++ signal_text net i ++ (if value then codes "=1" else codes "=0")

-- an input that has another value than before takes it
abbrev pub change_text : Network → ℕ → (was is : Bool) → List ℕ
change_text net i was is =
    if is then (if was then [] else set_text net i true) else (if was then set_text net i false else [])

-- the inputs that have other values than before; before a first scan all are FALSE
abbrev pub changes_text : Network → (before values : List Bool) → List ℕ
changes_text net before values =
    flat_map (λ i. change_text net i (slice_index_or before i false) (slice_index_or values i false)) (range_with_len 0 (length values))

-- a scan so many ms after the one before, as `  +10 S_L=1`
abbrev pub scan_line : Network → (gap : ℕ) → (before values : List Bool) → List ℕ
scan_line net gap before values = codes "  +" ++ decimal gap ++ changes_text net before values

-- its line
abbrev pub scan_text : Network → (gap : ℕ) → (before values : List Bool) → List ℕ
scan_text net gap before values = scan_line net gap before values ++ codes "\n"

-- the condition is of the scan before, or is not
abbrev pub is_of_before : (before : Bool) → Condition → Bool
is_of_before true c = c.before
is_of_before false c = not c.before

-- the conditions of the scan before, or those of the scan, as expectations; nothing where there are none
abbrev pub expect_text : Network → (before : Bool) → List Condition → List ℕ
expect_text net before cs =
    if list_any (is_of_before before) cs
    then codes "  expect" ++ flat_map (condition_text net) (filter (is_of_before before) cs) ++ codes "\n" else []

-- what is expected after a scan after which so many come
abbrev pub expected : Network → List Condition → (left : ℕ) → List ℕ
expected net cs left =
    if left == 0 then expect_text net false cs else if left == 1 then expect_text net true cs else []

-- the inputs of a scan, by its number
abbrev pub inputs_at : List (List Bool) → ℕ → List Bool
inputs_at scans i = slice_index_or scans i []

-- what is so many ms after the scan before: a first one 0 ms after the beginning
abbrev pub gap_before : (every i : ℕ) → ℕ
gap_before every i = if i == 0 then 0 else every

-- the inputs of the scan before; there are none before a first one
abbrev pub inputs_before : List (List Bool) → ℕ → List Bool
inputs_before scans i = if i == 0 then [] else inputs_at scans (i - 1)

-- scan i of these, which are so many ms apart, and what is expected after it
abbrev pub line_text : Network → (every : ℕ) → List Condition → List (List Bool) → ℕ → List ℕ
line_text net every cs scans i =
    scan_text net (gap_before every i) (inputs_before scans i) (inputs_at scans i) ++ expected net cs (length scans - 1 - i)

-- A case of this name: these scans, so many ms apart, and what is expected of the last one and of the one before it.
abbrev pub case_text : Network → (name : List ℕ) → (every : ℕ) → List Condition → List (List Bool) → List ℕ
case_text net name every cs scans =
    codes "case " ++ name ++ codes "\n" ++ flat_map (line_text net every cs scans) (range_with_len 0 (length scans))

-- the times of so many scans that come so many ms apart are those of a trace: the last one is not past the largest time
abbrev pub has_times : (every scans : ℕ) → Bool
has_times every scans = nat_le (every * (scans - 1)) LARGEST_TIME

-- what is told of so many scans whose times are none of a trace
abbrev pub late_text : (scans : ℕ) → List ℕ
late_text scans =
    codes ": a shortest case has " ++ count_text scans (codes "scan") ++ codes ", whose times would pass 4294967295 ms\n"
