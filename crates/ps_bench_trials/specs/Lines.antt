-- What is counted in a line, and in two lines together.
use Rattle.std.specs.Prelude.{ℕ, ◌+◌, ◌-◌, List, Option, Some, None, count_by, map, max, min, nat_le, replicate}
use Rattle.std.specs.Prelude.{slice_index, slice_set, zip}
use Rattle.ps_outside.specs.Outside.{last_count}
use Rattle.ps_bench_trials.specs.declared.line.Line.{Line}
use Rattle.ps_bench_trials.specs.declared.line.TheConstants.{FLOORS}

-- no trial
abbrev pub no_trial : Line
no_trial = record { count = 0; sum = 0; largest = 0; table = replicate 33 0 }

-- two counts together, up to the largest value
abbrev pub more : (count by : ℕ) → ℕ
more count by = min (count + by) last_count

-- the column of a latency: the last one whose least latency is not above it
unfoldable pub column_of : (latency : ℕ) → ℕ
column_of latency = count_by (λ floor. nat_le floor latency) FLOORS - 1

-- a line with a trip of this latency more, whose trial is counted
abbrev pub with_latency : Line → (latency : ℕ) → Line
with_latency l latency = record {
  count = l.count;
  sum = more l.sum latency;
  largest = max l.largest latency;
  table = slice_set l.table (column_of latency) (more (slice_index l.table (column_of latency)) 1);
}

-- a line with a trial more that did not trip
abbrev pub with_trial : Line → Line
with_trial l = record { count = more l.count 1; sum = l.sum; largest = l.largest; table = l.table }

-- a line with a trial more, which has this latency if it tripped
abbrev pub counted_in : Line → Option ℕ → Line
counted_in l None = with_trial l
counted_in l (Some latency) = with_latency (with_trial l) latency

-- two tables together, column by column
abbrev pub added_table : (table other : List ℕ) → List ℕ
added_table table other = map (λ p. more p.0 p.1) (zip table other)

-- two lines together: the counts and the latencies of both, and the larger one of their largest latencies
abbrev pub added_line : (line other : Line) → Line
added_line line other = record {
  count = more line.count other.count;
  sum = more line.sum other.sum;
  largest = max line.largest other.largest;
  table = added_table line.table other.table;
}
