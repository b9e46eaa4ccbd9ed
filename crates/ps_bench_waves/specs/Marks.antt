-- What marks the next scan of a run.
use Rattle.std.specs.Prelude.{true, false}
use Rattle.ps_bench_waves.specs.declared.marks.Marks.{Marks}

-- no scan was made
abbrev pub unmarked : Marks
unmarked = record { is_first = true; is_restarted = false }

-- a scan was made
abbrev pub behind_scan : Marks
behind_scan = record { is_first = false; is_restarted = false }

-- all began anew
abbrev pub behind_restart : Marks
behind_restart = record { is_first = true; is_restarted = true }
