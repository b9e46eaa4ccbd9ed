use Rattle.ps_bench_judge.specs.CaseRuns.{failures_of}
use Rattle.ps_bench_test.proofs.Ordering.{passes_as}
use Rattle.ps_bench_test.proofs.laws.passes_are_told_exactly.Goals as goal

pub returns : goal.returns
returns c net statements outcome is setup of ws means =
    passes_as outcome (failures_of net setup statements ws) (is.judged setup of ws means)
