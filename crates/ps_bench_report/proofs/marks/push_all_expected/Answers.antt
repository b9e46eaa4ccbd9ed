use Rattle.std.proofs.Common.{◌≡◌, ◌∙◌, ◌+◌, ◌∷◌, List, drop, refl, sym, ap}
use Rattle.std.proofs.lemmas.List.{drop_all, drop_more}
use Rattle.ps_bench_cases.specs.declared.case.Statement.{Statement}
use Rattle.ps_bench_report.specs.Marks.{with_statements}
use Rattle.ps_bench_names.specs.declared.name.Name.{Name}
use Rattle.ps_bench_report.proofs.marks.push_all_expected.Goals as goal

pub loop-statement-preserved : goal.loop-statement-preserved
loop-statement-preserved c =
    let statements = c.args.statements.now in
    let k = c.loop-statement.statement-index in
    let s = c.statement-item.result in
    let rest = drop (k + 1) statements in
    let next : drop k statements ≡ s ∷ rest = drop_more statements k s c.loop-statement-test.true ∙ ap (λ (x : Statement). x ∷ rest) (sym c.statement-item.is) in
    ap (λ (names : List Name). with_statements names rest) c.in_ok-push_expected.ensures
    ∙ sym (ap (with_statements c.loop-statement.names.items) next) ∙ c.loop-statement.invariant

pub loop-statement-init : goal.loop-statement-init
loop-statement-init c = refl

pub returns : goal.returns
returns c =
    sym (ap (with_statements c.loop-statement.names.items) (drop_all c.loop-statement.statement-index c.args.statements.now c.loop-statement-test.false))
    ∙ c.loop-statement.invariant
