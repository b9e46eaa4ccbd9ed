use Rattle.std.proofs.Common.{◌≡◌, ◌<◌, ◌+◌, ◌++◌, ◌∷◌, [], List, ℕ, Err, length, drop, get_or, ap, ◌∙◌, sym, subst, arith}
use Rattle.std.proofs.lemmas.Result.{err_from_is_err_and}
use Rattle.std.proofs.lemmas.List.{drop_more, append_assoc, length-replicate}
use Rattle.std.proofs.Common.{false}
use Rattle.ps_bench_cases.specs.declared.case.Case.{Case}
use Rattle.ps_bench_cases.specs.declared.case.Statement.{Statement}
use Rattle.ps_bench_cases.specs.declared.point.Point.{Point}
use Rattle.ps_bench_cases.specs.Writing.{Wrote, WroteAll}
use Rattle.ps_bench_cases.specs.Expanded.{restart_line, begin_point, end_point, case_text, cases_text}
use Rattle.ps_bench_cases.proofs.Pieces.{LeftOf, left_exit, left_next}
use Rattle.ps_bench_cases.proofs.Points.{all_size}
use Rattle.ps_bench_cases.proofs.whole.put_cases.Goals as goal

pub returns-in_err-put : goal.returns-in_err-put
returns-in_err-put g c =
    let p = err_from_is_err_and c.from_residual.result c.from_residual.ensures.1 in
    let n = length c.args.point.now.ins in let cases = c.args.file.now.cases in let begin = c.args.file.now.begin in let i = c.loop-case.case-index in let k = c.case-item.result in
    let rest = drop (i + 1) cases in let base = c.loop-case.base in let lead = c.loop-case.lead.now in
    let text = cases_text n begin [] 0 cases in
    let one = case_text n base k.name (begin ++ k.statements) in
    let others = cases_text n begin restart_line (base + (end_point n base (begin ++ k.statements)).time) rest in
    let within : i < length cases = omega (arith, ap (λ (cs : List Case). length cs) c.as_slice-case-items.ensures) in
    let item : k ≡ get_or cases i k = c.case-item.is ∙ ap (λ (cs : List Case). get_or cs i k) c.as_slice-case-items.ensures in
    let step : drop i cases ≡ k ∷ rest = drop_more cases i k within ∙ ap (λ (x : Case). x ∷ rest) (sym item) in
    let left : LeftOf g.S.Sink.tells g.S.Sink.taken g.S.Sink.faults text (lead ++ (one ++ others)) c.args.out.now c.loop-case.out =
    subst (λ (bytes : List ℕ). LeftOf g.S.Sink.tells g.S.Sink.taken g.S.Sink.faults text bytes c.args.out.now c.loop-case.out) (append_assoc lead one others)
    (subst (λ (ks : List Case). LeftOf g.S.Sink.tells g.S.Sink.taken g.S.Sink.faults text (cases_text n begin lead base ks) c.args.out.now c.loop-case.out) step c.loop-case.invariant.left) in
    left_exit g.S.Sink.tells g.S.Sink.taken g.S.Sink.faults lead (one ++ others) c.put.new.out c.in_err-put.field-0.0 c.from_residual.result (p.1 ∙ ap Err p.2) left c.in_err-put.ensures

pub returns-in_err-put_case : goal.returns-in_err-put_case
returns-in_err-put_case g c =
    let p = err_from_is_err_and c.from_residual-in_err-put_case.result c.from_residual-in_err-put_case.ensures.1 in
    let n = length c.args.point.now.ins in let cases = c.args.file.now.cases in let begin = c.args.file.now.begin in let i = c.loop-case.case-index in let k = c.case-item.result in
    let rest = drop (i + 1) cases in let base = c.loop-case.base in let lead = c.loop-case.lead.now in
    let text = cases_text n begin [] 0 cases in
    let one = case_text n base k.name (begin ++ k.statements) in
    let others = cases_text n begin restart_line (base + (end_point n base (begin ++ k.statements)).time) rest in
    let within : i < length cases = omega (arith, ap (λ (cs : List Case). length cs) c.as_slice-case-items.ensures) in
    let item : k ≡ get_or cases i k = c.case-item.is ∙ ap (λ (cs : List Case). get_or cs i k) c.as_slice-case-items.ensures in
    let step : drop i cases ≡ k ∷ rest = drop_more cases i k within ∙ ap (λ (x : Case). x ∷ rest) (sym item) in
    let left : LeftOf g.S.Sink.tells g.S.Sink.taken g.S.Sink.faults text (lead ++ (one ++ others)) c.args.out.now c.loop-case.out =
    subst (λ (bytes : List ℕ). LeftOf g.S.Sink.tells g.S.Sink.taken g.S.Sink.faults text bytes c.args.out.now c.loop-case.out) (append_assoc lead one others)
    (subst (λ (ks : List Case). LeftOf g.S.Sink.tells g.S.Sink.taken g.S.Sink.faults text (cases_text n begin lead base ks) c.args.out.now c.loop-case.out) step c.loop-case.invariant.left) in
    let first = left_next g.S.Sink.tells g.S.Sink.taken g.S.Sink.faults lead (one ++ others) c.put.new.out left c.in_ok-put.ensures in
    let some : Wrote g.S.Sink.tells g.S.Sink.taken g.S.Sink.faults one c.put.new.out c.put_case.new.out (Err c.in_err-put_case.field-0.0) =
    subst (λ (m : ℕ). Wrote g.S.Sink.tells g.S.Sink.taken g.S.Sink.faults (case_text m base k.name (begin ++ k.statements)) c.put.new.out c.put_case.new.out (Err c.in_err-put_case.field-0.0)) c.loop-case.invariant.size
    (subst (λ (ss : List Statement). Wrote g.S.Sink.tells g.S.Sink.taken g.S.Sink.faults (case_text (length c.loop-case.point.ins) base k.name (ss ++ k.statements)) c.put.new.out c.put_case.new.out (Err c.in_err-put_case.field-0.0)) c.as_slice.ensures c.in_err-put_case.ensures.wrote) in
    left_exit g.S.Sink.tells g.S.Sink.taken g.S.Sink.faults one others c.put_case.new.out c.in_err-put_case.field-0.0 c.from_residual-in_err-put_case.result (p.1 ∙ ap Err p.2) first some

pub loop-case-preserved : goal.loop-case-preserved
loop-case-preserved g c =
    let n = length c.args.point.now.ins in let cases = c.args.file.now.cases in let begin = c.args.file.now.begin in let i = c.loop-case.case-index in let k = c.case-item.result in
    let rest = drop (i + 1) cases in let base = c.loop-case.base in let lead = c.loop-case.lead.now in
    let text = cases_text n begin [] 0 cases in
    let one = case_text n base k.name (begin ++ k.statements) in
    let others = cases_text n begin restart_line (base + (end_point n base (begin ++ k.statements)).time) rest in
    let within : i < length cases = omega (arith, ap (λ (cs : List Case). length cs) c.as_slice-case-items.ensures) in
    let item : k ≡ get_or cases i k = c.case-item.is ∙ ap (λ (cs : List Case). get_or cs i k) c.as_slice-case-items.ensures in
    let step : drop i cases ≡ k ∷ rest = drop_more cases i k within ∙ ap (λ (x : Case). x ∷ rest) (sym item) in
    let left : LeftOf g.S.Sink.tells g.S.Sink.taken g.S.Sink.faults text (lead ++ (one ++ others)) c.args.out.now c.loop-case.out =
    subst (λ (bytes : List ℕ). LeftOf g.S.Sink.tells g.S.Sink.taken g.S.Sink.faults text bytes c.args.out.now c.loop-case.out) (append_assoc lead one others)
    (subst (λ (ks : List Case). LeftOf g.S.Sink.tells g.S.Sink.taken g.S.Sink.faults text (cases_text n begin lead base ks) c.args.out.now c.loop-case.out) step c.loop-case.invariant.left) in
    let first = left_next g.S.Sink.tells g.S.Sink.taken g.S.Sink.faults lead (one ++ others) c.put.new.out left c.in_ok-put.ensures in
    let wrote : WroteAll g.S.Sink.tells g.S.Sink.taken g.S.Sink.faults one c.put.new.out c.put_case.new.out =
    subst (λ (m : ℕ). WroteAll g.S.Sink.tells g.S.Sink.taken g.S.Sink.faults (case_text m base k.name (begin ++ k.statements)) c.put.new.out c.put_case.new.out) c.loop-case.invariant.size
    (subst (λ (ss : List Statement). WroteAll g.S.Sink.tells g.S.Sink.taken g.S.Sink.faults (case_text (length c.loop-case.point.ins) base k.name (ss ++ k.statements)) c.put.new.out c.put_case.new.out) c.as_slice.ensures c.in_ok-put_case.ensures.wrote) in
    let point : c.put_case.new.point ≡ end_point n base (begin ++ k.statements) =
    c.in_ok-put_case.ensures.point ∙ ap (λ (ss : List Statement). end_point (length c.loop-case.point.ins) base (ss ++ k.statements)) c.as_slice.ensures
    ∙ ap (λ (m : ℕ). end_point m base (begin ++ k.statements)) c.loop-case.invariant.size in
    let later : base + (end_point n base (begin ++ k.statements)).time ≡ base + c.from-base.result = ap (λ (m : ℕ). base + m) (sym (c.from-base.ensures ∙ ap (λ (r : Point). r.time) point)) in
    let second = left_next g.S.Sink.tells g.S.Sink.taken g.S.Sink.faults one others c.put_case.new.out first wrote in
    record {
      size = ap (λ (r : Point). length r.ins) point ∙ all_size (begin ++ k.statements) (begin_point n base) ∙ length-replicate n false;
      base = omega (arith, c.loop-case.invariant.base, c.from-base.ensures);
      left = subst (λ (m : ℕ). LeftOf g.S.Sink.tells g.S.Sink.taken g.S.Sink.faults text (cases_text n begin restart_line m rest) c.args.out.now c.put_case.new.out) later second;
    }
