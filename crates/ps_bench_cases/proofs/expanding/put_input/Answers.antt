use Rattle.std.proofs.Common.{◌∷◌, [], Err, ap, ◌∙◌}
use Rattle.std.proofs.lemmas.Result.{err_from_is_err_and}
use Rattle.ps_bench_cases.proofs.Pieces.{left_all, left_exit}
use Rattle.ps_bench_cases.proofs.expanding.put_input.Goals as goal

pub returns-in_err-put : goal.returns-in_err-put
returns-in_err-put g c =
    let p = err_from_is_err_and c.from_residual.result c.from_residual.ensures.1 in
    left_exit g.S.Sink.tells g.S.Sink.taken g.S.Sink.faults (32 ∷ []) c.args.name.now c.put.new.out c.in_err-put.field-0.0 c.from_residual.result (p.1 ∙ ap Err p.2) (left_all g.S.Sink.tells g.S.Sink.taken g.S.Sink.faults (32 ∷ c.args.name.now) c.args.out.now) c.in_err-put.ensures
