use Rattle.std.proofs.Common.{◌≡◌, ◌<◌, ◌++◌, ℕ, Err, false, ap, ◌∙◌, sym, subst, [], length, get_or}
use Rattle.std.specs.List.{All}
use Rattle.std.proofs.lemmas.Result.{err_from_is_err_and}
use Rattle.std.proofs.lemmas.List.{length-replicate}
use Rattle.ps_model.specs.Network.{input_count}
use Rattle.ps_bench_names.specs.declared.name.Setting.{Setting}
use Rattle.ps_bench_cases.specs.declared.case.Statement.{Statement}
use Rattle.ps_bench_cases.specs.declared.point.Point.{Point}
use Rattle.ps_bench_cases.specs.Writing.{Wrote}
use Rattle.ps_bench_cases.specs.Expanded.{header_line, cases_text, expanded}
use Rattle.ps_bench_cases.proofs.Pieces.{left_all, left_exit, left_next, left_last}
use Rattle.ps_bench_cases.proofs.whole.expand.Goals as goal

pub returns-in_err-put_header : goal.returns-in_err-put_header
returns-in_err-put_header g c =
    let p = err_from_is_err_and c.from_residual-in_err-put_header.result c.from_residual-in_err-put_header.ensures.1 in
    let net = c.args.app.now in let file = c.args.file.now in
    left_exit g.S.Sink.tells g.S.Sink.taken g.S.Sink.faults (header_line net) (cases_text (input_count net) file.begin [] 0 file.cases) c.put_header.new.out c.in_err-put_header.field-0.0 c.from_residual-in_err-put_header.result (p.1 ∙ ap Err p.2) (left_all g.S.Sink.tells g.S.Sink.taken g.S.Sink.faults (expanded net file) c.args.out.now) c.in_err-put_header.ensures

pub put_cases-requires-clause-inputs : goal.put_cases-requires-clause-inputs
put_cases-requires-clause-inputs g c = λ k d within.
    let net = c.args.app.now in let file = c.args.file.now in
    let size : length c.in_ok-point.point.ins ≡ input_count net = ap (λ (r : Point). length r.ins) c.in_ok-point.ensures ∙ length-replicate c.from.result false ∙ c.from.ensures ∙ c.input_count.ensures in
    subst (λ (n : ℕ). All (λ (s : Statement). All (λ (x : Setting). x.input < n) s.settings) (file.begin ++ (get_or file.cases k d).statements)) (sym size) (c.requires.runnable k d within).inputs

pub returns : goal.returns
returns g c =
    let net = c.args.app.now in let file = c.args.file.now in
    let size : length c.in_ok-point.point.ins ≡ input_count net = ap (λ (r : Point). length r.ins) c.in_ok-point.ensures ∙ length-replicate c.from.result false ∙ c.from.ensures ∙ c.input_count.ensures in
    let first = left_next g.S.Sink.tells g.S.Sink.taken g.S.Sink.faults (header_line net) (cases_text (input_count net) file.begin [] 0 file.cases) c.put_header.new.out (left_all g.S.Sink.tells g.S.Sink.taken g.S.Sink.faults (expanded net file) c.args.out.now) c.in_ok-put_header.ensures in
    let rest : Wrote g.S.Sink.tells g.S.Sink.taken g.S.Sink.faults (cases_text (input_count net) file.begin [] 0 file.cases) c.put_header.new.out c.put_cases.new.out c.put_cases.result =
    subst (λ (n : ℕ). Wrote g.S.Sink.tells g.S.Sink.taken g.S.Sink.faults (cases_text n file.begin [] 0 file.cases) c.put_header.new.out c.put_cases.new.out c.put_cases.result) size c.put_cases.ensures in
    left_last g.S.Sink.tells g.S.Sink.taken g.S.Sink.faults (expanded net file) (cases_text (input_count net) file.begin [] 0 file.cases) c.args.out.now c.put_header.new.out c.put_cases.new.out c.put_cases.result first rest
