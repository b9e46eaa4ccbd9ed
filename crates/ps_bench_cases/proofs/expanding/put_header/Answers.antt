use Rattle.std.proofs.Common.{ℕ, List, ◌++◌, Err, ap, ◌∙◌, codes, ◌∷◌, flat_map}
use Rattle.std.proofs.lemmas.Result.{err_from_is_err_and}
use Rattle.ps_bench_cases.specs.Expanded.{header_line}
use Rattle.ps_bench_cases.proofs.Pieces.{left_all, left_exit, left_last, left_next}
use Rattle.ps_bench_cases.proofs.expanding.put_header.Goals as goal

pub returns-in_err-put : goal.returns-in_err-put
returns-in_err-put g c =
    let p = err_from_is_err_and c.from_residual.result c.from_residual.ensures.1 in
    left_exit g.S.Sink.tells g.S.Sink.taken g.S.Sink.faults (codes "time") (flat_map (λ s. 32 ∷ s.name) c.args.app.now.inputs ++ codes "\n") c.put.new.out c.in_err-put.field-0.0 c.from_residual.result (p.1 ∙ ap Err p.2) (left_all g.S.Sink.tells g.S.Sink.taken g.S.Sink.faults (header_line c.args.app.now) c.args.out.now) c.in_err-put.ensures

pub returns-in_err-put_inputs : goal.returns-in_err-put_inputs
returns-in_err-put_inputs g c =
    let p = err_from_is_err_and c.from_residual-in_err-put_inputs.result c.from_residual-in_err-put_inputs.ensures.1 in
    let names : List ℕ = flat_map (λ s. 32 ∷ s.name) c.args.app.now.inputs in
    let first = left_next g.S.Sink.tells g.S.Sink.taken g.S.Sink.faults (codes "time") (names ++ codes "\n") c.put.new.out (left_all g.S.Sink.tells g.S.Sink.taken g.S.Sink.faults (header_line c.args.app.now) c.args.out.now) c.in_ok-put.ensures in
    left_exit g.S.Sink.tells g.S.Sink.taken g.S.Sink.faults names (codes "\n") c.put_inputs.new.out c.in_err-put_inputs.field-0.0 c.from_residual-in_err-put_inputs.result (p.1 ∙ ap Err p.2) first c.in_err-put_inputs.ensures

pub returns : goal.returns
returns g c =
    let names : List ℕ = flat_map (λ s. 32 ∷ s.name) c.args.app.now.inputs in
    let first = left_next g.S.Sink.tells g.S.Sink.taken g.S.Sink.faults (codes "time") (names ++ codes "\n") c.put.new.out (left_all g.S.Sink.tells g.S.Sink.taken g.S.Sink.faults (header_line c.args.app.now) c.args.out.now) c.in_ok-put.ensures in
    let second = left_next g.S.Sink.tells g.S.Sink.taken g.S.Sink.faults names (codes "\n") c.put_inputs.new.out first c.in_ok-put_inputs.ensures in
    left_last g.S.Sink.tells g.S.Sink.taken g.S.Sink.faults (header_line c.args.app.now) (codes "\n") c.args.out.now c.put_inputs.new.out c.put-2.new.out c.put-2.result second c.put-2.ensures
