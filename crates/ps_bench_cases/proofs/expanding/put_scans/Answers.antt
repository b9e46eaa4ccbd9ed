use Rattle.std.proofs.Common.{◌+◌, ◌++◌, List, ℕ, Err, flat_map, ap, ◌∙◌, subst}
use Rattle.std.proofs.lemmas.Result.{err_from_is_err_and}
use Rattle.ps_bench_cases.specs.Meant.{times_of}
use Rattle.ps_bench_cases.specs.Writing.{Wrote, WroteAll}
use Rattle.ps_bench_cases.specs.Expanded.{scan_line}
use Rattle.ps_bench_cases.proofs.Pieces.{left_all, left_exit, left_next, left_last}
use Rattle.ps_bench_cases.proofs.expanding.put_scans.Goals as goal

pub returns-in_err-put : goal.returns-in_err-put
returns-in_err-put g c =
    let p = err_from_is_err_and c.from_residual.result c.from_residual.ensures.1 in
    let held : List ℕ = c.args.point.now.held in
    let scans : List ℕ = flat_map (λ now. scan_line (c.args.point.now.base + now) c.args.point.now.ins) (times_of c.args.pace.now) in
    let some : Wrote g.S.Sink.tells g.S.Sink.taken g.S.Sink.faults held c.args.out.now c.put.new.out (Err c.in_err-put.field-0.0) =
    subst (λ (bytes : List ℕ). Wrote g.S.Sink.tells g.S.Sink.taken g.S.Sink.faults bytes c.args.out.now c.put.new.out (Err c.in_err-put.field-0.0)) c.as_slice.ensures c.in_err-put.ensures in
    left_exit g.S.Sink.tells g.S.Sink.taken g.S.Sink.faults held scans c.put.new.out c.in_err-put.field-0.0 c.from_residual.result (p.1 ∙ ap Err p.2) (left_all g.S.Sink.tells g.S.Sink.taken g.S.Sink.faults (held ++ scans) c.args.out.now) some

pub returns : goal.returns
returns g c =
    let held : List ℕ = c.args.point.now.held in
    let scans : List ℕ = flat_map (λ now. scan_line (c.args.point.now.base + now) c.args.point.now.ins) (times_of c.args.pace.now) in
    let wrote : WroteAll g.S.Sink.tells g.S.Sink.taken g.S.Sink.faults held c.args.out.now c.put.new.out =
    subst (λ (bytes : List ℕ). WroteAll g.S.Sink.tells g.S.Sink.taken g.S.Sink.faults bytes c.args.out.now c.put.new.out) c.as_slice.ensures c.in_ok-put.ensures in
    let first = left_next g.S.Sink.tells g.S.Sink.taken g.S.Sink.faults held scans c.put.new.out (left_all g.S.Sink.tells g.S.Sink.taken g.S.Sink.faults (held ++ scans) c.args.out.now) wrote in
    left_last g.S.Sink.tells g.S.Sink.taken g.S.Sink.faults (held ++ scans) scans c.args.out.now c.put.new.out c.put_pace.new.out c.put_pace.result first c.put_pace.ensures
