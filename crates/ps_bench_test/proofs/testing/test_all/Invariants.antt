use Rattle.std.proofs.Common.{◌≡◌, ◌≤◌, ◌++◌, IsTrue, List, take}
use Rattle.ps_bench_test.specs.Outcome.{Ran}
use Rattle.ps_bench_test.specs.Testing.{AreRan, cases_text, tally_of}
use Rattle.ps_bench_test.proofs.testing.test_all.Given as goal

abbrev pub invariant-loop-case : goal.invariant-loop-case
invariant-loop-case g l =
    record {
      ran : (rs : List Ran)
          × AreRan l.bench.opened.now.app l.bench.name.now l.named.name.now l.named.file.now (take l.case-index l.cases) rs
          × (l.tally ≡ tally_of l.fn.before rs)
          × (IsTrue (g.O.Sink.tells l.fn.out) → g.O.Sink.taken l.out ≡ g.O.Sink.taken l.fn.out ++ cases_text l.bench.format l.fn.before rs);
      writes : g.O.Sink.faults l.fn.out ≤ g.O.Sink.faults l.out;
      telling : g.O.Sink.tells l.out ≡ g.O.Sink.tells l.fn.out;
    }
