use Rattle.std.proofs.Common.{◌≡◌, IsTrue}
use Rattle.ps_base.specs.declared.limits.TheConstants.{LONGEST_TRACE_LINE}
use Rattle.ps_bench_watch.specs.Reading.{left, longest_of}
use Rattle.ps_trace.specs.Header.{input_names}
use Rattle.ps_bench_watch.specs.Streaming.{fed_lines}
use Rattle.ps_bench_watch.proofs.WatchSaying.{Skipped}
use Rattle.ps_bench_watch.proofs.feed.Feed.start.Given as goal

abbrev pub invariant-lines : goal.invariant-lines
invariant-lines g l = record {
  skipped : IsTrue (g.S.Stream.tells l.initial.input) →
      Skipped (input_names l.app) (fed_lines (g.S.Stream.coming l.initial.input)) (left l.lines (g.S.Stream.coming l.input)) l.number;
  longest : longest_of l.lines ≡ LONGEST_TRACE_LINE;
  exact : g.S.Stream.faults l.input ≡ g.S.Stream.faults l.initial.input;
  telling : g.S.Stream.tells l.input ≡ g.S.Stream.tells l.initial.input;
}
