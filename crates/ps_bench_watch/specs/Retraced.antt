-- A run is read back from the log that is written of it.
use Rattle.std.specs.Prelude.{◌≡◌, ◌≤◌, ◌+◌, ℕ, false, List, length}
use Rattle.ps_base.specs.declared.limits.TheConstants.{LARGEST_TRACE, LONGEST_TRACE_LINE}
use Rattle.ps_bench_cases.specs.Expanded.{header_line}
use Rattle.ps_bench_logs.specs.Log.{log_of}
use Rattle.ps_bench_logs.specs.Log.End.{whole}
use Rattle.ps_bench_logs.specs.declared.limits.TheConstants.{LARGEST_LOG, LONGEST_LOG_LINE}
use Rattle.ps_model.specs.declared.channel.Fault.{Fault}
use Rattle.ps_model.specs.Meaning.{Item, Meaning}
use Rattle.ps_model.specs.Network.{Network}
use Rattle.ps_model.specs.Scanning.{State}
use Rattle.ps_model.specs.Sound.{IsSound}
use Rattle.ps_bench_logs.specs.Recording.{log_trace}
use Rattle.ps_bench_watch.specs.Logged.{HasLogNames, logged}
use Rattle.ps_bench_waves.specs.Lines.{head_text}
use Rattle.ps_bench_waves.specs.Names.{all_names}
use Rattle.ps_bench_waves.specs.declared.format.Format.TheVariants.{Csv}
use Rattle.ps_trace.specs.Scans.{scans_of}
use Rattle.ps_trace.specs.Scans.End.{whole as whole_trace}
use Rattle.ps_bench_waves.specs.Watching.{watch_text}
use Rattle.ps_world.specs.Answers.{answers_of_run}
use Rattle.ps_world.specs.Whole.{Setup, machines_in}

-- What `watch` writes as CSV, with all names, of a run of these items in a world of this setup where these faults
-- strike.
abbrev pub run_log : Network → Setup → List Fault → List Item → List State → List ℕ
run_log net setup faults items ws =
    watch_text net Csv (all_names net) items (answers_of_run net (machines_in setup) items faults) ws

-- The log of a run of the scans of a trace is one that `trace` takes: its names can be told apart, and its header and
-- it are no longer than a line of a log and a log may be.
pub record IsLogOf (net : Network) (setup : Setup) (faults : List Fault) (trace : List ℕ)
    (ws : List State) : Type 0 where
  pub sound : IsSound net
  pub named : HasLogNames net
  pub meant : Meaning net (scans_of trace net).items ws
  pub header : length (head_text net Csv (all_names net)) ≤ LONGEST_LOG_LINE + 1
  pub size : length (run_log net setup faults (scans_of trace net).items ws) ≤ LARGEST_LOG

-- It means the scans of the trace, with its restarts as a log has them, up to its end.
abbrev pub LogMeansTrace : Type 0
LogMeansTrace = (net : Network) (setup : Setup) (faults : List Fault) (trace : List ℕ) (ws : List State) →
    IsLogOf net setup faults trace ws →
    log_of net (run_log net setup faults (scans_of trace net).items ws)
    ≡ record { items = logged false (scans_of trace net).items; end = whole }

-- What `trace` writes of it is a trace of these, where the header is no longer than a line of a trace, and it no larger
-- than a trace, may be.
abbrev pub TraceComesBack : Type 0
TraceComesBack = (net : Network) (setup : Setup) (faults : List Fault) (trace : List ℕ) (ws : List State) →
    IsLogOf net setup faults trace ws → length (header_line net) ≤ LONGEST_TRACE_LINE + 1 →
    length (log_trace net (run_log net setup faults (scans_of trace net).items ws)) ≤ LARGEST_TRACE →
    scans_of (log_trace net (run_log net setup faults (scans_of trace net).items ws)) net
    ≡ record { items = logged false (scans_of trace net).items; end = whole_trace }
