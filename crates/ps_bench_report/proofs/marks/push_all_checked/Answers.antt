use Rattle.std.proofs.Common.{◌≡◌, ◌∙◌, ◌+◌, ◌∷◌, List, drop, refl, sym, ap}
use Rattle.std.specs.Prelude.{fold}
use Rattle.std.proofs.lemmas.List.{drop_all, drop_more}
use Rattle.ps_bench_cases.specs.declared.case.Check.{Check}
use Rattle.ps_bench_report.specs.Marks.{with_checked}
use Rattle.ps_bench_names.specs.declared.name.Name.{Name}
use Rattle.ps_bench_report.proofs.marks.push_all_checked.Goals as goal

pub loop-check-preserved : goal.loop-check-preserved
loop-check-preserved c =
    let checks = c.args.checks.now in
    let k = c.loop-check.check-index in
    let check = c.check-item.result in
    let rest = drop (k + 1) checks in
    let next : drop k checks ≡ check ∷ rest = drop_more checks k check c.loop-check-test.true ∙ ap (λ (x : Check). x ∷ rest) (sym c.check-item.is) in
    ap (λ (names : List Name). fold with_checked names rest) c.in_ok-push_checked.ensures
    ∙ sym (ap (fold with_checked c.loop-check.names.items) next) ∙ c.loop-check.invariant

pub loop-check-init : goal.loop-check-init
loop-check-init c = refl

pub returns : goal.returns
returns c =
    sym (ap (fold with_checked c.loop-check.names.items) (drop_all c.loop-check.check-index c.args.checks.now c.loop-check-test.false))
    ∙ c.loop-check.invariant
