use Rattle.std.proofs.Common.{Err, inr, refl, ap, ◌∙◌}
use Rattle.std.proofs.lemmas.Result.{err_from_is_err_and}
use Rattle.ps_bench_test.specs.Outcome.{counted}
use Rattle.ps_bench_test.proofs.Stopped.{err_is}
use Rattle.ps_bench_test.proofs.testing.test_case.Goals as goal

pub returns-clause-ran : goal.returns-clause-ran
returns-clause-ran g c = (
  record {
    net = c.args.bench.now.opened.now.app;
    app = c.args.bench.now.name.now;
    name = c.args.named.now.name.now;
    file = c.args.named.now.file.now;
    case = c.args.case.now;
    outcome = c.in_ok-outcome.outcome;
  },
  record { net_is = refl; app_is = refl; name_is = refl; file_is = refl; case_is = refl; outcome = c.in_ok-outcome.ensures },
  c.and.ensures ∙ ap (counted c.args.before) c.passed.ensures,
  c.in_ok-tell_case.ensures.says,
)

pub returns-in_err-tell_case-clause-stops : goal.returns-in_err-tell_case-clause-stops
returns-in_err-tell_case-clause-stops g c =
    let p = err_from_is_err_and c.from_residual-in_err-tell_case.result c.from_residual-in_err-tell_case.ensures.1 in
    err_is _ c.from_residual-in_err-tell_case.result _ (p.1 ∙ ap Err p.2)
    (inr (
      record {
        net = c.args.bench.now.opened.now.app;
        app = c.args.bench.now.name.now;
        name = c.args.named.now.name.now;
        file = c.args.named.now.file.now;
        case = c.args.case.now;
        outcome = c.in_ok-outcome.outcome;
      },
      record { net_is = refl; app_is = refl; name_is = refl; file_is = refl; case_is = refl; outcome = c.in_ok-outcome.ensures },
      c.in_err-tell_case.ensures.stops,
    ))
