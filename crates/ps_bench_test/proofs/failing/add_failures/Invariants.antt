use Rattle.std.proofs.Common.{◌≡◌, ◌++◌, drop}
use Rattle.ps_bench_test.specs.Failing.{failures_text}
use Rattle.ps_bench_test.proofs.failing.add_failures.Given as goal

abbrev pub invariant-loop-failure : goal.invariant-loop-failure
invariant-loop-failure l =
    l.text ++ failures_text l.app l.mark l.rest (drop l.failure-index l.failures)
    ≡ l.initial.text ++ failures_text l.app l.mark l.statements l.failures
