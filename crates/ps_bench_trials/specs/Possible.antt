-- What a campaign can write of the latencies of a line: those that as many trips can have.
use Rattle.std.specs.Prelude.{ℕ, zero, suc, ◌+◌, ◌*◌, ◌-◌, ◌==◌, ◌&&◌, Bool, List, if◌then◌else◌, min, nat_le, nat_lt, slice_index}
use Rattle.ps_outside.specs.Outside.{last_count}
use Rattle.ps_bench_trials.specs.Lines.{column_of}
use Rattle.ps_bench_trials.specs.declared.line.Line.{Line}
use Rattle.ps_bench_trials.specs.declared.line.TheConstants.{FLOORS}
use Rattle.ps_bench_trials.specs.declared.possible.Weight.{Weight}
use Rattle.ps_bench_trials.specs.declared.possible.Weight.TheVariants.{Above, Least, Most, Once}

-- so many numbers together, from number 0 on
abbrev pub total : (ℕ → ℕ) → (count : ℕ) → ℕ
total numbers zero = 0
total numbers (suc n) = total numbers n + numbers n

-- all trips of a table together, each with the weight of its column
abbrev pub weighed : (weight : ℕ → ℕ) → (table : List ℕ) → ℕ
weighed weight table = total (λ c. slice_index table c * weight c) 33

-- each trip counts once
abbrev pub once : (column : ℕ) → ℕ
once c = 1

-- the least latency of a column
abbrev pub least_of : (column : ℕ) → ℕ
least_of c = slice_index FLOORS c

-- The largest latency of a column, where none is above this one: one less than the least of the next column, and of the
-- last column this one.
abbrev pub most_of : (largest column : ℕ) → ℕ
most_of largest c = if nat_lt c 32 then min (least_of (c + 1) - 1) largest else largest

-- a trip counts once where its column is above this one
abbrev pub above : (highest column : ℕ) → ℕ
above highest c = if nat_lt highest c then 1 else 0

-- the table has as many trips as were counted
abbrev pub has_all : Line → Bool
has_all l = l.count == min (weighed once l.table) last_count

-- the largest latency is of the highest column that has a trip
abbrev pub has_largest : Line → Bool
has_largest l = nat_lt 0 (slice_index l.table (column_of l.largest)) && weighed (above (column_of l.largest)) l.table == 0

-- the table is one of as many trips as were counted, and of their largest latency
abbrev pub has_counts : Line → Bool
has_counts l = has_all l && has_largest l

-- the sum is not less than that of the largest latency and, for each other trip, the least latency of its column
abbrev pub has_least : Line → Bool
has_least l = nat_le (min (weighed least_of l.table + (l.largest - least_of (column_of l.largest))) last_count) l.sum

-- the sum is not more than that of the largest latency of its column for each trip
abbrev pub has_most : Line → Bool
has_most l = nat_le l.sum (weighed (most_of l.largest) l.table)

-- the latencies of the table can have the sum
abbrev pub has_sums : Line → Bool
has_sums l = has_least l && has_most l

-- Some trips have the latencies of this line. Counts and sums stay at the largest value.
abbrev pub is_possible : Line → Bool
is_possible l = has_counts l && has_sums l

-- what the code weighs trips by
abbrev pub weight_of : Weight → (column : ℕ) → ℕ
weight_of Once = once
weight_of Least = least_of
weight_of (Most largest) = most_of largest
weight_of (Above highest) = above highest
