use Rattle.std.proofs.Common.{◌∙◌, refl, ap}
use Rattle.ps_bench_test.specs.Outcome.{Ran, counted}
use Rattle.ps_bench_report.proofs.Shown.{one_shown}
use Rattle.ps_bench_report.proofs.running.run_case.Goals as goal

pub returns : goal.returns
returns c =
    let r : Ran = record {
      net = c.args.bench.now.opened.now.app;
      app = c.args.bench.now.name.now;
      name = c.args.named.now.name.now;
      file = c.args.named.now.file.now;
      case = c.args.case.now;
      outcome = c.in_ok-outcome.outcome;
    } in (
      r,
      record { net_is = refl; app_is = refl; name_is = refl; file_is = refl; case_is = refl; outcome = c.in_ok-outcome.ensures },
      one_shown c.args.named.now.place r c.args.pages.now c.add_case.new.page c.add_section.new.page c.add_section.new.total c.add_case.ensures c.in_ok-add_section.ensures.shown c.in_ok-add_section.ensures.covers
          c.and-pages.result (c.and-pages.ensures ∙ ap (counted c.args.pages.now.tally) c.passed.ensures),
    )
