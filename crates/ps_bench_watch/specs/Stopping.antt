-- How a call ends whose run came to its end.
use Rattle.std.specs.Prelude.{◌≡◌, ◌⊎◌, ℕ, Bool, IsTrue, List, ◌++◌, take, Result}
use Rattle.ps_base.specs.declared.failing.Refusal.{Refusal}
use Rattle.ps_report.specs.Short.{refusal_text}
use Rattle.ps_runs.specs.Written.{WritesLines}
use Rattle.ps_runs.specs.declared.items.Cut.{Cut}
use Rattle.ps_trace.specs.Scans.{End}
use Rattle.ps_bench_watch.specs.Showing.{EndsRun}
use Rattle.ps_bench_frame.specs.declared.ending.Input.{Input}
use Rattle.ps_bench_frame.specs.declared.ending.InputStop.TheVariants.{Refused}
use Rattle.ps_bench_frame.specs.declared.ending.Stop.{Stop}
use Rattle.ps_bench_frame.specs.declared.ending.Stop.TheVariants.{Input as StopsAt, Unwritten}

-- After a run that ended so a call wrote more, and ended.
pub record EndsBehind (ran : Result (Unit {0}) Cut) (tells : Bool) (before after : List ℕ)
    (ended : Result (Unit {0}) Stop) : Type 0 where
  pub more : List ℕ
  pub written : IsTrue tells → after ≡ before ++ more
  pub ends : (text : List ℕ) (end : End) (bytes : List ℕ) → WritesLines text end bytes ran →
      EndsRun text end (bytes ++ more) ended
