use Rattle.std.proofs.Common.{◌∙◌, ◌++◌, sym}
use Rattle.ps_bench_report.proofs.Expecting.{marks-append}
use Rattle.ps_bench_report.specs.Marks.{marks_in}
use Rattle.ps_bench_report.proofs.marks.marks_of.Goals as goal

pub returns : goal.returns
returns c =
    let failures = c.args.failures.now in
    let own = c.args.case.now.statements in
    c.in_ok-push_marks-2.ensures
    ∙ (λ i. c.in_ok-push_marks.ensures i ++ marks_in failures (c.as_slice-2.ensures i))
    ∙ (λ i. (c.new-marks.ensures.items i ++ marks_in failures (c.as_slice.ensures i)) ++ marks_in failures own)
    ∙ sym (marks-append failures c.args.file.now.begin own)
