-- How a run ends whose lines were all answered.
use Rattle.std.specs.Prelude.{Bool, if◌then◌else◌}
use Rattle.ps_bench_watch.specs.declared.saying.Ending.{Ending}
use Rattle.ps_bench_watch.specs.declared.saying.Ending.TheVariants.{Released, Tripped}

-- by whether a scan tripped
abbrev pub ending_by : Bool → Ending
ending_by trips = if trips then Tripped else Released
