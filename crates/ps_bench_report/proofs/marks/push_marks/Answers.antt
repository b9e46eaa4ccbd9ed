use Rattle.std.proofs.Common.{◌≡◌, ◌∙◌, ◌+◌, ◌++◌, [], ◌∷◌, List, drop, refl, sym, ap, append_assoc, append-nil}
use Rattle.std.proofs.lemmas.List.{drop_all, drop_more}
use Rattle.ps_bench_cases.specs.declared.case.Statement.{Statement}
use Rattle.ps_bench_report.proofs.Expecting.{marks-append}
use Rattle.ps_bench_report.specs.Marks.{marks_in}
use Rattle.ps_bench_report.specs.declared.marks.Mark.{Mark}
use Rattle.ps_bench_report.proofs.marks.push_marks.Goals as goal

pub loop-statement-preserved : goal.loop-statement-preserved
loop-statement-preserved c =
    let failures = c.args.failures.now in
    let statements = c.args.statements.now in
    let k = c.loop-statement.statement-index in
    let s = c.statement-item.result in
    let marks = c.loop-statement.marks.items in
    let rest = drop (k + 1) statements in
    let next : drop k statements ≡ s ∷ rest = drop_more statements k s c.loop-statement-test.true ∙ ap (λ (x : Statement). x ∷ rest) (sym c.statement-item.is) in
    ap (λ (ms : List Mark). ms ++ marks_in failures rest) c.in_ok-push_mark.ensures
    ∙ append_assoc marks (marks_in failures (s ∷ [])) (marks_in failures rest)
    ∙ ap (λ (ms : List Mark). marks ++ ms) (sym (marks-append failures (s ∷ []) rest))
    ∙ sym (ap (λ (ss : List Statement). marks ++ marks_in failures ss) next) ∙ c.loop-statement.invariant

pub loop-statement-init : goal.loop-statement-init
loop-statement-init c = refl

pub returns : goal.returns
returns c =
    let marks = c.loop-statement.marks.items in
    sym (append-nil marks) ∙ sym (ap (λ ss. marks ++ marks_in c.args.failures.now ss) (drop_all c.loop-statement.statement-index c.args.statements.now c.loop-statement-test.false))
    ∙ c.loop-statement.invariant
