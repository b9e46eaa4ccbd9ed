use Rattle.std.proofs.Common.{◌≡◌, ◌∙◌, ◌+◌, ◌++◌, [], ◌∷◌, List, Vec, Global, append-nil, cond, false, get_or, take, sym, ap}
use Rattle.std.specs.Prelude.{◌==◌}
use Rattle.std.proofs.lemmas.Bool.{eq-eqb, ne_eqb}
use Rattle.std.proofs.lemmas.List.{take_more}
use Rattle.std.proofs.lemmas.List.Elements.{filter-append}
use Rattle.ps_bench_report.specs.Diagram.{marks_at}
use Rattle.ps_bench_report.specs.declared.marks.Mark.{Mark}
use Rattle.ps_bench_report.proofs.diagram.marks_at.Goals.{then-mark-scan+in_ok-push, else-mark-scan}
use Rattle.ps_bench_report.proofs.diagram.marks_at.Goals as goal

pub loop-mark-preserved : goal.loop-mark-preserved
loop-mark-preserved c =
    let marks = c.args.marks.now in
    let scan = c.args.scan in
    let k = c.loop-mark.mark-index in
    let none : Mark = record { scan = 0; line = 0; failed = false } in
    let m = get_or marks k none in
    let before = marks_at scan (take k marks) in
    let split : marks_at scan (take (k + 1) marks) ≡ before ++ cond (m.scan == scan) (m ∷ []) [] =
    ap (marks_at scan) (take_more marks k none c.loop-mark-test.true) ∙ filter-append (λ (x : Mark). x.scan == scan) (take k marks) (m ∷ []) in
    elim c.if-mark-scan.branch [
      | then-mark-scan+in_ok-push w ↦
          ap (λ (v : Vec Mark Global). v.items) w.list-is ∙ w.in_ok-push.ensures.items ∙ ap (λ (ms : List Mark). ms ++ m ∷ []) c.loop-mark.invariant
          ∙ sym (split ∙ ap (λ b. before ++ cond b (m ∷ []) []) (eq-eqb m.scan scan w.if-mark-scan.true))
      | else-mark-scan w ↦
          ap (λ (v : Vec Mark Global). v.items) w.list-is ∙ c.loop-mark.invariant ∙ sym (append-nil before)
          ∙ sym (split ∙ ap (λ b. before ++ cond b (m ∷ []) []) (ne_eqb m.scan scan w.if-mark-scan.false))
    ]
