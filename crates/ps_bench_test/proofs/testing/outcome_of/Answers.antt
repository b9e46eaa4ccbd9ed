use Rattle.std.proofs.Common.{◌∙◌}
use Rattle.ps_bench_test.proofs.testing.outcome_of.Goals as goal

pub returns : goal.returns
returns c =
    record {
      judged = λ setup of ws means p.
          c.in_ok-failures.ensures.same p ∙ c.in_ok-outcome.ensures.judged setup of ws means p;
      in_order = c.in_ok-failures.ensures.ordered;
      scans = c.in_ok-outcome.ensures.scans;
    }
