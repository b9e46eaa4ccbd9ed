use Rattle.std.proofs.Common.{◌≡◌, ◌∙◌, ℕ, List, IsTrue, Option, Some, Result, Err, sym, ap, subst}
use Rattle.std.proofs.lemmas.Result.{err_from_is_err_and}
use Rattle.ps_lines.specs.Reader.{left, name_of}
use Rattle.ps_bench_logs.specs.Log.{log_of}
use Rattle.ps_bench_logs.specs.Lines.{fail_of}
use Rattle.ps_bench_logs.specs.Recording.{Leaves, log_trace}
use Rattle.ps_bench_logs.specs.declared.recording.RecordFail.{RecordFail}
use Rattle.ps_bench_logs.proofs.Whole.{header_failed, header_stopped, rows_leave, took_nothing}
use Rattle.ps_bench_logs.proofs.recording.record.Goals as goal

pub returns-in_err-lines-clause-leaves : goal.returns-in_err-lines-clause-leaves
returns-in_err-lines-clause-leaves g c = λ tells told text held.
    let p = err_from_is_err_and c.from_residual.result c.from_residual.ensures.1 in
    let before = g.S.Sink.taken c.args.out.now in
    let bytes = log_trace c.args.app.now text in
    subst (λ (r : Result (Unit {0}) RecordFail). Leaves bytes (log_of c.args.app.now text).end before before r) (sym (p.1 ∙ ap Err p.2)) (took_nothing before bytes)

pub returns-in-Err-clause-leaves : goal.returns-in-Err-clause-leaves
returns-in-Err-clause-leaves g c = λ tells told text held.
    header_stopped c.args.app.now text (g.S.Sink.taken c.args.out.now) (left c.read_header.new.lines text) c.in-Err.fail
    (c.in-Err.ensures.header tells text (ap (g.F.Files.held c.args.files.now) c.in_ok-lines.ensures.name ∙ held))

pub returns-in-Ok-put_header-clause-leaves : goal.returns-in-Ok-put_header-clause-leaves
returns-in-Ok-put_header-clause-leaves g c = λ tells told text held.
    let here = ap (g.F.Files.held c.args.files.now) c.in_ok-lines.ensures.name ∙ held in
    let read = c.in-Ok.ensures in
    let wrote = c.in-Ok-put_header.ensures in
    let there : g.F.Files.held c.read_header.new.files (name_of c.read_header.new.lines) ≡ Some text =
    ap (λ (h : List ℕ → Option (List ℕ)). h (name_of c.read_header.new.lines)) read.kept ∙ ap (g.F.Files.held c.args.files.now) read.name ∙ here in
    rows_leave c.args.app.now text c.in-Ok.table (left c.read_header.new.lines text) (g.S.Sink.taken c.args.out.now) (g.S.Sink.taken c.put_header.new.out) (g.S.Sink.taken c.put_rows.new.out) c.put_rows.result
    (read.header tells text here) (wrote.bytes told)
    (c.put_rows.ensures.leaves (subst IsTrue (sym read.telling) tells) (subst IsTrue (sym wrote.telling) told) text there (read.reading tells text here))

pub returns-clause-leaves : goal.returns-clause-leaves
returns-clause-leaves g c = λ tells told text held.
    let here = ap (g.F.Files.held c.args.files.now) c.in_ok-lines.ensures.name ∙ held in
    let fail_is : c.from-in-Err-put_header.result ≡ fail_of c.in-Err-put_header.fail = c.from-in-Err-put_header.ensures in
    subst (λ (fail : RecordFail). Leaves (log_trace c.args.app.now text) (log_of c.args.app.now text).end (g.S.Sink.taken c.args.out.now) (g.S.Sink.taken c.put_header.new.out) (Err fail)) (sym fail_is)
    (header_failed g.S.Sink.tells g.S.Sink.taken g.S.Sink.faults c.args.app.now text c.in-Ok.table (left c.read_header.new.lines text) c.args.out.now c.put_header.new.out c.in-Err-put_header.fail
    (c.in-Ok.ensures.header tells text here) c.in-Err-put_header.ensures told)
