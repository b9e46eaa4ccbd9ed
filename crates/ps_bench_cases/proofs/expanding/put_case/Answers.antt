use Rattle.std.proofs.Common.{◌≡◌, ◌<◌, ◌^◌, ◌++◌, List, ℕ, false, Err, length, fold, ap, ◌∙◌, sym, subst}
use Rattle.std.specs.List.{All}
use Rattle.std.proofs.lemmas.Result.{err_from_is_err_and}
use Rattle.std.proofs.lemmas.List.{length-replicate}
use Rattle.ps_bench_names.specs.declared.name.Setting.{Setting}
use Rattle.ps_bench_cases.specs.declared.case.Statement.{Statement}
use Rattle.ps_bench_cases.specs.declared.point.Point.{Point}
use Rattle.ps_bench_cases.specs.Writing.{Wrote, WroteAll}
use Rattle.ps_bench_cases.specs.Expanded.{name_line, begin_point, next_point, statements_text, case_text}
use Rattle.ps_bench_cases.proofs.Pieces.{LeftOf, left_all, left_exit, left_next, left_last}
use Rattle.ps_bench_cases.proofs.Points.{all_size, all_base, text_behind, all_front, all_back}
use Rattle.ps_bench_cases.proofs.expanding.put_case.Goals as goal

pub returns-in_err-put_name-clause-wrote : goal.returns-in_err-put_name-clause-wrote
returns-in_err-put_name-clause-wrote g c =
    let p = err_from_is_err_and c.from_residual.result c.from_residual.ensures.1 in
    let n = length c.args.point.now.ins in let b = begin_point n c.args.base in let begin = c.args.begin.now in let own = c.args.case.now.statements in let name = c.args.case.now.name in
    let text = case_text n c.args.base name (begin ++ own) in
    let start = left_all g.S.Sink.tells g.S.Sink.taken g.S.Sink.faults text c.args.out.now in
    let some : Wrote g.S.Sink.tells g.S.Sink.taken g.S.Sink.faults (name_line name) c.args.out.now c.put_name.new.out (Err c.in_err-put_name.field-0.0) =
    subst (λ (bytes : List ℕ). Wrote g.S.Sink.tells g.S.Sink.taken g.S.Sink.faults (name_line bytes) c.args.out.now c.put_name.new.out (Err c.in_err-put_name.field-0.0)) c.as_str.ensures c.in_err-put_name.ensures in
    left_exit g.S.Sink.tells g.S.Sink.taken g.S.Sink.faults (name_line name) (statements_text b (begin ++ own)) c.put_name.new.out c.in_err-put_name.field-0.0 c.from_residual.result (p.1 ∙ ap Err p.2) start some

pub put_statements-requires-clause-inputs : goal.put_statements-requires-clause-inputs
put_statements-requires-clause-inputs g c =
    let size : length c.args.point.now.ins ≡ length c.begin.new.self.ins = sym (ap (λ (r : Point). length r.ins) c.begin.ensures ∙ length-replicate (length c.args.point.now.ins) false) in
    subst (λ (n : ℕ). All (λ (s : Statement). All (λ (x : Setting). x.input < n) s.settings) c.args.begin.now) size
    (all_front (λ (s : Statement). All (λ (x : Setting). x.input < length c.args.point.now.ins) s.settings) c.args.begin.now c.args.case.now.statements c.requires.inputs)

pub returns-in_err-put_statements-clause-wrote : goal.returns-in_err-put_statements-clause-wrote
returns-in_err-put_statements-clause-wrote g c =
    let p = err_from_is_err_and c.from_residual-in_err-put_statements.result c.from_residual-in_err-put_statements.ensures.1 in
    let n = length c.args.point.now.ins in let b = begin_point n c.args.base in let begin = c.args.begin.now in let own = c.args.case.now.statements in let name = c.args.case.now.name in
    let text = case_text n c.args.base name (begin ++ own) in
    let start = left_all g.S.Sink.tells g.S.Sink.taken g.S.Sink.faults text c.args.out.now in
    let named : WroteAll g.S.Sink.tells g.S.Sink.taken g.S.Sink.faults (name_line name) c.args.out.now c.put_name.new.out = subst (λ (bytes : List ℕ). WroteAll g.S.Sink.tells g.S.Sink.taken g.S.Sink.faults (name_line bytes) c.args.out.now c.put_name.new.out) c.as_str.ensures c.in_ok-put_name.ensures in
    let first : LeftOf g.S.Sink.tells g.S.Sink.taken g.S.Sink.faults text (statements_text b begin ++ statements_text (fold next_point b begin) own) c.args.out.now c.put_name.new.out =
    subst (λ (bytes : List ℕ). LeftOf g.S.Sink.tells g.S.Sink.taken g.S.Sink.faults text bytes c.args.out.now c.put_name.new.out) (text_behind begin own b) (left_next g.S.Sink.tells g.S.Sink.taken g.S.Sink.faults (name_line name) (statements_text b (begin ++ own)) c.put_name.new.out start named) in
    let some : Wrote g.S.Sink.tells g.S.Sink.taken g.S.Sink.faults (statements_text b begin) c.put_name.new.out c.put_statements.new.out (Err c.in_err-put_statements.field-0.0) =
    subst (λ (r : Point). Wrote g.S.Sink.tells g.S.Sink.taken g.S.Sink.faults (statements_text r begin) c.put_name.new.out c.put_statements.new.out (Err c.in_err-put_statements.field-0.0)) c.begin.ensures c.in_err-put_statements.ensures.wrote in
    left_exit g.S.Sink.tells g.S.Sink.taken g.S.Sink.faults (statements_text b begin) (statements_text (fold next_point b begin) own) c.put_statements.new.out c.in_err-put_statements.field-0.0 c.from_residual-in_err-put_statements.result (p.1 ∙ ap Err p.2) first some

pub put_statements-requires-2-clause-inputs : goal.put_statements-requires-2-clause-inputs
put_statements-requires-2-clause-inputs g c =
    let size : length c.args.point.now.ins ≡ length c.put_statements.new.point.ins =
    sym (ap (λ (r : Point). length r.ins) c.in_ok-put_statements.ensures.point ∙ all_size c.args.begin.now c.begin.new.self ∙ ap (λ (r : Point). length r.ins) c.begin.ensures ∙ length-replicate (length c.args.point.now.ins) false) in
    subst (λ (ss : List Statement). All (λ (s : Statement). All (λ (x : Setting). x.input < length c.put_statements.new.point.ins) s.settings) ss) (sym c.as_slice.ensures)
    (subst (λ (n : ℕ). All (λ (s : Statement). All (λ (x : Setting). x.input < n) s.settings) c.args.case.now.statements) size
    (all_back (λ (s : Statement). All (λ (x : Setting). x.input < length c.args.point.now.ins) s.settings) c.args.begin.now c.args.case.now.statements c.requires.inputs))

pub put_statements-requires-2-clause-base : goal.put_statements-requires-2-clause-base
put_statements-requires-2-clause-base g c =
    let is : c.put_statements.new.point.base ≡ c.args.base = ap (λ (r : Point). r.base) c.in_ok-put_statements.ensures.point ∙ all_base c.args.begin.now c.begin.new.self ∙ ap (λ (r : Point). r.base) c.begin.ensures in
    subst (λ (n : ℕ). n < 2 ^ 63) (sym is) c.requires.base

pub returns-clause-wrote : goal.returns-clause-wrote
returns-clause-wrote g c =
    let n = length c.args.point.now.ins in let b = begin_point n c.args.base in let begin = c.args.begin.now in let own = c.args.case.now.statements in let name = c.args.case.now.name in
    let text = case_text n c.args.base name (begin ++ own) in
    let start = left_all g.S.Sink.tells g.S.Sink.taken g.S.Sink.faults text c.args.out.now in
    let named : WroteAll g.S.Sink.tells g.S.Sink.taken g.S.Sink.faults (name_line name) c.args.out.now c.put_name.new.out = subst (λ (bytes : List ℕ). WroteAll g.S.Sink.tells g.S.Sink.taken g.S.Sink.faults (name_line bytes) c.args.out.now c.put_name.new.out) c.as_str.ensures c.in_ok-put_name.ensures in
    let first : LeftOf g.S.Sink.tells g.S.Sink.taken g.S.Sink.faults text (statements_text b begin ++ statements_text (fold next_point b begin) own) c.args.out.now c.put_name.new.out =
    subst (λ (bytes : List ℕ). LeftOf g.S.Sink.tells g.S.Sink.taken g.S.Sink.faults text bytes c.args.out.now c.put_name.new.out) (text_behind begin own b) (left_next g.S.Sink.tells g.S.Sink.taken g.S.Sink.faults (name_line name) (statements_text b (begin ++ own)) c.put_name.new.out start named) in
    let wrote : WroteAll g.S.Sink.tells g.S.Sink.taken g.S.Sink.faults (statements_text b begin) c.put_name.new.out c.put_statements.new.out = subst (λ (r : Point). WroteAll g.S.Sink.tells g.S.Sink.taken g.S.Sink.faults (statements_text r begin) c.put_name.new.out c.put_statements.new.out) c.begin.ensures c.in_ok-put_statements.ensures.wrote in
    let second = left_next g.S.Sink.tells g.S.Sink.taken g.S.Sink.faults (statements_text b begin) (statements_text (fold next_point b begin) own) c.put_statements.new.out first wrote in
    let point : c.put_statements.new.point ≡ fold next_point b begin = c.in_ok-put_statements.ensures.point ∙ ap (λ (r : Point). fold next_point r begin) c.begin.ensures in
    let last : Wrote g.S.Sink.tells g.S.Sink.taken g.S.Sink.faults (statements_text (fold next_point b begin) own) c.put_statements.new.out c.put_statements-2.new.out c.put_statements-2.result =
    subst (λ (r : Point). Wrote g.S.Sink.tells g.S.Sink.taken g.S.Sink.faults (statements_text r own) c.put_statements.new.out c.put_statements-2.new.out c.put_statements-2.result) point
    (subst (λ (ss : List Statement). Wrote g.S.Sink.tells g.S.Sink.taken g.S.Sink.faults (statements_text c.put_statements.new.point ss) c.put_statements.new.out c.put_statements-2.new.out c.put_statements-2.result) c.as_slice.ensures c.put_statements-2.ensures.wrote) in
    left_last g.S.Sink.tells g.S.Sink.taken g.S.Sink.faults text (statements_text (fold next_point b begin) own) c.args.out.now c.put_statements.new.out c.put_statements-2.new.out c.put_statements-2.result second last
