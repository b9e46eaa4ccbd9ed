use Rattle.std.proofs.Common.{◌++◌, List, Bool, Err, flat_map, codes, decimal, ap, ◌∙◌, subst}
use Rattle.std.proofs.lemmas.Result.{err_from_is_err_and}
use Rattle.ps_bench_cases.specs.Writing.{Wrote, WroteAll}
use Rattle.ps_bench_cases.specs.Expanded.{value_text, scan_line}
use Rattle.ps_bench_cases.proofs.Pieces.{left_all, left_exit, left_next, left_last}
use Rattle.ps_bench_cases.proofs.expanding.put_scan.Goals as goal

pub returns-in_err-put_values : goal.returns-in_err-put_values
returns-in_err-put_values g c =
    let p = err_from_is_err_and c.from_residual-in_err-put_values.result c.from_residual-in_err-put_values.ensures.1 in
    let ins = c.args.ins.now in
    let digits : WroteAll g.S.Sink.tells g.S.Sink.taken g.S.Sink.faults (decimal c.args.now) c.args.out.now c.put_number.new.out = c.in_ok-put_number.ensures in
    let first = left_next g.S.Sink.tells g.S.Sink.taken g.S.Sink.faults (decimal c.args.now) (flat_map value_text ins ++ codes "\n") c.put_number.new.out (left_all g.S.Sink.tells g.S.Sink.taken g.S.Sink.faults (scan_line c.args.now ins) c.args.out.now) digits in
    let some : Wrote g.S.Sink.tells g.S.Sink.taken g.S.Sink.faults (flat_map value_text ins) c.put_number.new.out c.put_values.new.out (Err c.in_err-put_values.field-0.0) =
    subst (λ (values : List Bool). Wrote g.S.Sink.tells g.S.Sink.taken g.S.Sink.faults (flat_map value_text values) c.put_number.new.out c.put_values.new.out (Err c.in_err-put_values.field-0.0)) c.as_slice.ensures c.in_err-put_values.ensures in
    left_exit g.S.Sink.tells g.S.Sink.taken g.S.Sink.faults (flat_map value_text ins) (codes "\n") c.put_values.new.out c.in_err-put_values.field-0.0 c.from_residual-in_err-put_values.result (p.1 ∙ ap Err p.2) first some

pub returns : goal.returns
returns g c =
    let ins = c.args.ins.now in
    let digits : WroteAll g.S.Sink.tells g.S.Sink.taken g.S.Sink.faults (decimal c.args.now) c.args.out.now c.put_number.new.out = c.in_ok-put_number.ensures in
    let first = left_next g.S.Sink.tells g.S.Sink.taken g.S.Sink.faults (decimal c.args.now) (flat_map value_text ins ++ codes "\n") c.put_number.new.out (left_all g.S.Sink.tells g.S.Sink.taken g.S.Sink.faults (scan_line c.args.now ins) c.args.out.now) digits in
    let values : WroteAll g.S.Sink.tells g.S.Sink.taken g.S.Sink.faults (flat_map value_text ins) c.put_number.new.out c.put_values.new.out =
    subst (λ (values : List Bool). WroteAll g.S.Sink.tells g.S.Sink.taken g.S.Sink.faults (flat_map value_text values) c.put_number.new.out c.put_values.new.out) c.as_slice.ensures c.in_ok-put_values.ensures in
    let second = left_next g.S.Sink.tells g.S.Sink.taken g.S.Sink.faults (flat_map value_text ins) (codes "\n") c.put_values.new.out first values in
    left_last g.S.Sink.tells g.S.Sink.taken g.S.Sink.faults (scan_line c.args.now ins) (codes "\n") c.args.out.now c.put_values.new.out c.put.new.out c.put.result second c.put.ensures

pub returns-in_err-put_number : goal.returns-in_err-put_number
returns-in_err-put_number g c =
    let p = err_from_is_err_and c.from_residual.result c.from_residual.ensures.1 in
    let ins = c.args.ins.now in
    let some : Wrote g.S.Sink.tells g.S.Sink.taken g.S.Sink.faults (decimal c.args.now) c.args.out.now c.put_number.new.out (Err c.in_err-put_number.field-0.0) = c.in_err-put_number.ensures in
    left_exit g.S.Sink.tells g.S.Sink.taken g.S.Sink.faults (decimal c.args.now) (flat_map value_text ins ++ codes "\n") c.put_number.new.out c.in_err-put_number.field-0.0 c.from_residual.result (p.1 ∙ ap Err p.2) (left_all g.S.Sink.tells g.S.Sink.taken g.S.Sink.faults (scan_line c.args.now ins) c.args.out.now) some
