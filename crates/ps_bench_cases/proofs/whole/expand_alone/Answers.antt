use Rattle.std.proofs.Common.{◌≡◌, ◌++◌, ◌<◌, ℕ, List, Err, false, ap, ◌∙◌, sym, subst, [], length}
use Rattle.std.specs.List.{All}
use Rattle.std.proofs.lemmas.Result.{err_from_is_err_and}
use Rattle.std.proofs.lemmas.List.{append-nil, length-replicate}
use Rattle.ps_model.specs.Network.{input_count}
use Rattle.ps_bench_names.specs.declared.name.Setting.{Setting}
use Rattle.ps_bench_cases.specs.declared.case.Statement.{Statement}
use Rattle.ps_bench_cases.specs.declared.point.Point.{Point}
use Rattle.ps_bench_cases.specs.Alone.{alone}
use Rattle.ps_bench_cases.specs.Meant.{whole_case}
use Rattle.ps_bench_cases.specs.Writing.{Wrote}
use Rattle.ps_bench_cases.specs.Expanded.{case_text, expanded, header_line}
use Rattle.ps_bench_cases.proofs.Pieces.{LeftOf, left_all, left_exit, left_next, left_last}
use Rattle.ps_bench_cases.proofs.whole.expand_alone.Goals as goal

pub returns-in_err-put_header : goal.returns-in_err-put_header
returns-in_err-put_header g c =
    let p = err_from_is_err_and c.from_residual-in_err-put_header.result c.from_residual-in_err-put_header.ensures.1 in
    let net = c.args.app.now in let file = c.args.file.now in let own = c.args.case.now in
    let text = case_text (input_count net) 0 own.name (whole_case file own) in
    left_exit g.S.Sink.tells g.S.Sink.taken g.S.Sink.faults (header_line net) (text ++ []) c.put_header.new.out c.in_err-put_header.field-0.0 c.from_residual-in_err-put_header.result (p.1 ∙ ap Err p.2) (left_all g.S.Sink.tells g.S.Sink.taken g.S.Sink.faults (expanded net (alone file own)) c.args.out.now) c.in_err-put_header.ensures

pub put_case-requires-clause-inputs : goal.put_case-requires-clause-inputs
put_case-requires-clause-inputs g c =
    let net = c.args.app.now in
    let size : length c.in_ok-point.point.ins ≡ input_count net = ap (λ (r : Point). length r.ins) c.in_ok-point.ensures ∙ length-replicate c.from.result false ∙ c.from.ensures ∙ c.input_count.ensures in
    subst (λ (begin : List Statement). All (λ (s : Statement). All (λ (x : Setting). x.input < length c.in_ok-point.point.ins) s.settings) (begin ++ c.args.case.now.statements)) (sym c.as_slice-begin.ensures)
    (subst (λ (n : ℕ). All (λ (s : Statement). All (λ (x : Setting). x.input < n) s.settings) (whole_case c.args.file.now c.args.case.now)) (sym size) c.requires.inputs)

pub returns : goal.returns
returns g c =
    let net = c.args.app.now in let file = c.args.file.now in let own = c.args.case.now in
    let text : ℕ → List ℕ = λ n. case_text n 0 own.name (whole_case file own) in
    let size : length c.in_ok-point.point.ins ≡ input_count net = ap (λ (r : Point). length r.ins) c.in_ok-point.ensures ∙ length-replicate c.from.result false ∙ c.from.ensures ∙ c.input_count.ensures in
    let first : LeftOf g.S.Sink.tells g.S.Sink.taken g.S.Sink.faults (expanded net (alone file own)) (text (input_count net)) c.args.out.now c.put_header.new.out =
    subst (λ (rest : List ℕ). LeftOf g.S.Sink.tells g.S.Sink.taken g.S.Sink.faults (expanded net (alone file own)) rest c.args.out.now c.put_header.new.out) (append-nil (text (input_count net)))
    (left_next g.S.Sink.tells g.S.Sink.taken g.S.Sink.faults (header_line net) (text (input_count net) ++ []) c.put_header.new.out (left_all g.S.Sink.tells g.S.Sink.taken g.S.Sink.faults (expanded net (alone file own)) c.args.out.now) c.in_ok-put_header.ensures) in
    let rest : Wrote g.S.Sink.tells g.S.Sink.taken g.S.Sink.faults (text (input_count net)) c.put_header.new.out c.put_case.new.out c.put_case.result =
    subst (λ (n : ℕ). Wrote g.S.Sink.tells g.S.Sink.taken g.S.Sink.faults (text n) c.put_header.new.out c.put_case.new.out c.put_case.result) size
    (subst (λ (begin : List Statement). Wrote g.S.Sink.tells g.S.Sink.taken g.S.Sink.faults (case_text (length c.in_ok-point.point.ins) 0 own.name (begin ++ own.statements)) c.put_header.new.out c.put_case.new.out c.put_case.result) c.as_slice-begin.ensures c.put_case.ensures.wrote) in
    left_last g.S.Sink.tells g.S.Sink.taken g.S.Sink.faults (expanded net (alone file own)) (text (input_count net)) c.args.out.now c.put_header.new.out c.put_case.new.out c.put_case.result first rest
