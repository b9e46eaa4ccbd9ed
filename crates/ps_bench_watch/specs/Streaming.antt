-- A trace that comes as a stream: that of a file of these bytes, but that there is no largest one.
use Rattle.std.specs.Prelude.{◌≡◌, ◌≤◌, ℕ, List, length}
use Rattle.ps_base.specs.declared.limits.TheConstants.{LARGEST_TRACE, LONGEST_TRACE_LINE}
use Rattle.ps_lines.specs.Lines.{Line}
use Rattle.ps_model.specs.Network.{Network}
use Rattle.ps_bench_watch.specs.Streams.{stream_lines}
use Rattle.ps_trace.specs.Header.{input_names}
use Rattle.ps_trace.specs.Scans.{Scans, header_from, scans_behind, trace_lines}

-- the lines of a trace that comes as a stream of these bytes
abbrev pub fed_lines : List ℕ → List Line
fed_lines bytes = stream_lines LONGEST_TRACE_LINE bytes

-- the scans and restarts of these lines, of which the first that is not skipped is the header
abbrev pub scans_in : List Line → Network → Scans
scans_in lines net = scans_behind (header_from (input_names net) 1 lines)

-- Where a file could have these bytes, their lines are those of the file.
abbrev pub LinesOfFile : Type 0
LinesOfFile = (bytes : List ℕ) → length bytes ≤ LARGEST_TRACE → fed_lines bytes ≡ trace_lines bytes
