-- Of which cases it is known what their runs show.
use Rattle.std.specs.Prelude.{◌⊎◌, Bool, IsTrue}
use Rattle.ps_bench_cases.specs.Alone.{alone}
use Rattle.ps_bench_cases.specs.Legible.{IsLegible}
use Rattle.ps_bench_test.specs.Outcome.{Ran}

-- The trace of a case is read as it was written.
abbrev pub IsReadBack : Ran → Type 0
IsReadBack r = IsLegible r.net (alone r.file r.case)

-- The files tell what they hold; or they do not, and the trace of the case is read as it was written. Where they tell,
-- it always is, so that all is known of every case.
abbrev pub IsKnown : (tells : Bool) → Ran → Type 0
IsKnown tells r = IsTrue tells ⊎ IsReadBack r
