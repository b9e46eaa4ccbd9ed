use Rattle.ps_bench_watch.proofs.Back.{trace_back}
use Rattle.ps_bench_watch.specs.Retraced.{run_log}
use Rattle.ps_bench_watch.proofs.laws.trace_comes_back.Goals as goal
use Rattle.ps_trace.specs.Scans.{scans_of}

pub returns : goal.returns
returns c = λ net setup faults trace ws is long fits.
    trace_back net setup faults trace ws is (c.scans_in_order.ensures trace net)
    (c.recorded_trace_is_read.ensures net (run_log net setup faults (scans_of trace net).items ws)) long fits
