-- What an expectation sees of a scan.
use Rattle.std.specs.Prelude.{ℕ, Bool, true, false, List}
use Rattle.ps_model.specs.declared.channel.Verdict.{Verdict}
use Rattle.ps_model.specs.declared.channel.Verdict.TheVariants.{Released, Tripped, Down}
use Rattle.ps_model.specs.declared.report.Report.{Report}
use Rattle.ps_bench_judge.specs.declared.seen.Seen.{Seen}

-- A scan of a run: its time in ms, what the comparator said of it, the report that was released, and the value of each
-- signal after the scan before and after this one, as the networks mean them.
pub record Moment : Type 0 where
  pub now : ℕ
  pub verdict : Verdict
  pub report : Report
  pub before : List Bool
  pub signals : List Bool

-- what the code sees of a scan
abbrev pub moment_of : Seen → Moment
moment_of s = record { now = s.now; verdict = s.verdict; report = s.report.now; before = s.before.now; signals = s.signals.now }

-- the scan tripped, or the world is down since an earlier one
abbrev pub is_stopped : Verdict → Bool
is_stopped Released = false
is_stopped (Tripped cause) = true
is_stopped Down = true

-- the scan tripped
abbrev pub trips : Verdict → Bool
trips Released = false
trips (Tripped cause) = true
trips Down = false
