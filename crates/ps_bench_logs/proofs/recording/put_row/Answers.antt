use Rattle.std.proofs.Common.{◌≡◌, ℕ, List, Err, subst, arith}
use Rattle.std.proofs.lemmas.Grind.{common_steps}
use Rattle.ps_bench_cases.specs.Expanded.{scan_line}
use Rattle.ps_bench_cases.specs.Writing.{Wrote, WroteAll}
use Rattle.ps_bench_logs.proofs.Rows.{row_stopped, row_wrote}
use Rattle.ps_bench_logs.proofs.recording.put_row.Goals as goal

pub returns-in-Ok : goal.returns-in-Ok
returns-in-Ok g c =
    let tells = g.S.Sink.tells in
    let taken = g.S.Sink.taken in
    let faults = g.S.Sink.faults in
    let now : c.from.result ≡ c.args.now = grind (arith, common_steps) in
    let first = subst (λ (bytes : List ℕ). WroteAll tells taken faults bytes c.args.out.now c.put.new.out) c.restart_text.ensures c.in-Ok.ensures in
    let scan = subst (λ (n : ℕ). Wrote tells taken faults (scan_line n c.args.ins.now) c.put.new.out c.put_scan.new.out c.put_scan.result) now c.put_scan.ensures in
    row_wrote tells taken faults c.args.now c.args.is_restarted c.args.ins.now c.args.out.now c.put.new.out c.put_scan.new.out c.put_scan.result first scan

pub returns-in-Err : goal.returns-in-Err
returns-in-Err g c =
    let tells = g.S.Sink.tells in
    let taken = g.S.Sink.taken in
    let faults = g.S.Sink.faults in
    let first = subst (λ (bytes : List ℕ). Wrote tells taken faults bytes c.args.out.now c.put.new.out (Err c.in-Err.fail)) c.restart_text.ensures c.in-Err.ensures in
    row_stopped tells taken faults c.args.now c.args.is_restarted c.args.ins.now c.args.out.now c.put.new.out c.in-Err.fail first
