use Rattle.std.proofs.Common.{◌≡◌, ◌≤◌, [], ℕ, IsTrue}
use Rattle.ps_model.specs.Network.{input_count}
use Rattle.ps_bench_watch.specs.Feeding.{inputs_of_feed, last_of, lines_left}
use Rattle.ps_bench_watch.specs.Coming.{told_number}
use Rattle.ps_runs.specs.Running.{Fits}
use Rattle.ps_bench_watch.proofs.Going.{Went}
use Rattle.ps_bench_watch.proofs.answering.answer_lines.Given as goal

abbrev pub invariant-lines : goal.invariant-lines
invariant-lines g l = record {
  fits : Fits (g.P.Performer.fits l.app) (g.T.Taker.fits l.app) l.app l.runner;
  due : g.P.Performer.earliest l.runner.performer ≤ last_of l.feed;
  inputs : inputs_of_feed l.feed ≡ input_count l.app;
  places : l.feed.places ≡ l.initial.feed.places;
  went : IsTrue (g.I.Stream.tells l.initial.input) → (number : ℕ) → l.initial.feed.number ≡ told_number number →
      Went (g.P.Performer.performs l.app) (g.T.Taker.said l.app) (g.T.Taker.takes l.app)
      l.initial.feed number l.initial.runner.performer l.initial.runner.taker (lines_left l.initial.feed (g.I.Stream.coming l.initial.input))
      (g.O.Sink.tells l.initial.out) (g.O.Sink.taken l.initial.out)
      l._count l.feed l.runner.performer l.runner.taker (lines_left l.feed (g.I.Stream.coming l.input)) (g.O.Sink.taken l.out);
  reads : g.I.Stream.faults l.initial.input ≤ g.I.Stream.faults l.input;
  telling : g.I.Stream.tells l.input ≡ g.I.Stream.tells l.initial.input;
  handed_on : g.O.Output.held_back l.initial.out ≡ [] → g.O.Output.held_back l.out ≡ [];
  writes : g.O.Sink.faults l.initial.out ≤ g.O.Sink.faults l.out;
  still_telling : g.O.Sink.tells l.out ≡ g.O.Sink.tells l.initial.out;
}
