use Rattle.std.proofs.Common.{◌++◌, List, ℕ, Err, ap, ◌∙◌, codes, subst}
use Rattle.std.proofs.lemmas.Result.{err_from_is_err_and}
use Rattle.ps_bench_cases.specs.Writing.{Wrote, WroteAll}
use Rattle.ps_bench_cases.specs.Expanded.{name_line}
use Rattle.ps_bench_cases.proofs.Pieces.{left_all, left_exit, left_next, left_last}
use Rattle.ps_bench_cases.proofs.expanding.put_name.Goals as goal

pub returns-in_err-put : goal.returns-in_err-put
returns-in_err-put g c =
    let p = err_from_is_err_and c.from_residual.result c.from_residual.ensures.1 in
    left_exit g.S.Sink.tells g.S.Sink.taken g.S.Sink.faults (codes "# case ") (c.args.name.now ++ codes "\n") c.put.new.out c.in_err-put.field-0.0 c.from_residual.result (p.1 ∙ ap Err p.2) (left_all g.S.Sink.tells g.S.Sink.taken g.S.Sink.faults (name_line c.args.name.now) c.args.out.now) c.in_err-put.ensures

pub returns : goal.returns
returns g c =
    let first = left_next g.S.Sink.tells g.S.Sink.taken g.S.Sink.faults (codes "# case ") (c.args.name.now ++ codes "\n") c.put.new.out (left_all g.S.Sink.tells g.S.Sink.taken g.S.Sink.faults (name_line c.args.name.now) c.args.out.now) c.in_ok-put.ensures in
    let wrote : WroteAll g.S.Sink.tells g.S.Sink.taken g.S.Sink.faults c.args.name.now c.put.new.out c.put-2.new.out = subst (λ (bytes : List ℕ). WroteAll g.S.Sink.tells g.S.Sink.taken g.S.Sink.faults bytes c.put.new.out c.put-2.new.out) c.as_bytes.ensures.value c.in_ok-put-2.ensures in
    let second = left_next g.S.Sink.tells g.S.Sink.taken g.S.Sink.faults c.args.name.now (codes "\n") c.put-2.new.out first wrote in
    left_last g.S.Sink.tells g.S.Sink.taken g.S.Sink.faults (name_line c.args.name.now) (codes "\n") c.args.out.now c.put-2.new.out c.put-3.new.out c.put-3.result second c.put-3.ensures

pub returns-in_err-put-2 : goal.returns-in_err-put-2
returns-in_err-put-2 g c =
    let p = err_from_is_err_and c.from_residual-in_err-put-2.result c.from_residual-in_err-put-2.ensures.1 in
    let first = left_next g.S.Sink.tells g.S.Sink.taken g.S.Sink.faults (codes "# case ") (c.args.name.now ++ codes "\n") c.put.new.out (left_all g.S.Sink.tells g.S.Sink.taken g.S.Sink.faults (name_line c.args.name.now) c.args.out.now) c.in_ok-put.ensures in
    let some : Wrote g.S.Sink.tells g.S.Sink.taken g.S.Sink.faults c.args.name.now c.put.new.out c.put-2.new.out (Err c.in_err-put-2.field-0.0) = subst (λ (bytes : List ℕ). Wrote g.S.Sink.tells g.S.Sink.taken g.S.Sink.faults bytes c.put.new.out c.put-2.new.out (Err c.in_err-put-2.field-0.0)) c.as_bytes.ensures.value c.in_err-put-2.ensures in
    left_exit g.S.Sink.tells g.S.Sink.taken g.S.Sink.faults c.args.name.now (codes "\n") c.put-2.new.out c.in_err-put-2.field-0.0 c.from_residual-in_err-put-2.result (p.1 ∙ ap Err p.2) first some
