-- The number of a scan of a run.
use Rattle.std.specs.Prelude.{◌+◌, true, false, min}
use Rattle.ps_bench_waves.specs.declared.count.Count.{Count}

-- scans are counted from 1
abbrev pub first_count : Count
first_count = record { number = 1; is_restarted = false }

-- the scan after one; the largest number stays
abbrev pub next_count : Count → Count
next_count count = record { number = min (count.number + 1) 18446744073709551615; is_restarted = false }

-- the next scan after a restart
abbrev pub anew_count : Count → Count
anew_count count = record { number = count.number; is_restarted = true }
