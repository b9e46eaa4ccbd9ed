use Rattle.std.proofs.Common.{◌≡◌, ◌+◌, ◌-◌, ◌++◌, IsTrue}
use Rattle.ps_bench_watch.specs.Reading.{held_of, longest_of}
use Rattle.ps_bench_watch.proofs.lines.StreamLines.next_line.Given as goal

abbrev pub invariant-pieces : goal.invariant-pieces
invariant-pieces g l = record {
  same : IsTrue (g.S.Stream.tells l.initial.input) →
      held_of l.self ++ g.S.Stream.coming l.input ≡ held_of l.initial.self ++ g.S.Stream.coming l.initial.input;
  exact : g.S.Stream.faults l.input ≡ g.S.Stream.faults l.initial.input;
  telling : g.S.Stream.tells l.input ≡ g.S.Stream.tells l.initial.input;
  longest : longest_of l.self ≡ longest_of l.initial.self;
}

abbrev pub decreases-pieces : goal.decreases-pieces
decreases-pieces g l = l.self.longest + 1 - (l.self.upto - l.self.from)
