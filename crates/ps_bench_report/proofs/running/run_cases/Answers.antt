use Rattle.std.proofs.Common.{◌<◌, ◌++◌, ◌∷◌, [], take, length, sym, subst, arith}
use Rattle.ps_bench_cases.specs.Meant.{whole_case}
use Rattle.ps_bench_cases.specs.Runnable.{IsRunnable}
use Rattle.ps_bench_test.specs.Testing.{AreRan}
use Rattle.ps_bench_test.proofs.Running.{are_more, item_more}
use Rattle.ps_bench_report.proofs.Shown.{none_shown, shown_behind}
use Rattle.ps_bench_report.proofs.running.run_cases.Goals as goal

pub loop-case-init : goal.loop-case-init
loop-case-init c = ([], tt, none_shown c.args.bench.now.opened.now.app c.args.named.now.place c.args.pages.now)

pub loop-case-preserved : goal.loop-case-preserved
loop-case-preserved c =
    let net = c.args.bench.now.opened.now.app in
    let word = c.args.bench.now.name.now in
    let name = c.args.named.now.name.now in
    let file = c.args.named.now.file.now in
    let place = c.loop-case.case-index in
    let old = c.loop-case.invariant in
    let new = c.in_ok-run_case.ensures in
    let below : place < length c.args.cases.now = omega arith in (
      old.0 ++ new.0 ∷ [],
      subst (λ cs. AreRan net word name file cs (old.0 ++ new.0 ∷ []))
          (sym (item_more c.args.cases.now place c.case-item.result below c.case-item.is))
          (are_more net word name file (take place c.args.cases.now) c.case-item.result old.0 new.0 old.1 new.1),
      shown_behind net c.args.named.now.place old.0 (new.0 ∷ []) c.args.pages.now c.loop-case.pages c.run_case.new.pages old.2 new.2,
    )

pub run_case-requires-clause-runnable : goal.run_case-requires-clause-runnable
run_case-requires-clause-runnable c =
    let below : c.loop-case.case-index < length c.args.cases.now = omega arith in
    subst (λ case. IsRunnable c.args.bench.now.opened.now.app (whole_case c.args.named.now.file.now case)) (sym c.case-item.is)
    (c.requires.runnable c.loop-case.case-index c.case-item.result below)
