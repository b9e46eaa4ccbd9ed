use Rattle.std.proofs.Common.{List, take}
use Rattle.ps_bench_report.specs.Running.{ShowsCases}
use Rattle.ps_bench_test.specs.Outcome.{Ran}
use Rattle.ps_bench_test.specs.Testing.{AreRan}
use Rattle.ps_bench_report.proofs.running.run_cases.Given as goal

abbrev pub invariant-loop-case : goal.invariant-loop-case
invariant-loop-case l =
    (rs : List Ran)
    × AreRan l.bench.opened.now.app l.bench.name.now l.named.name.now l.named.file.now (take l.case-index l.cases) rs
    × ShowsCases l.bench.opened.now.app l.named.place rs l.fn.pages l.pages
