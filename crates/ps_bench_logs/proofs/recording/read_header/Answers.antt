use Rattle.std.proofs.Common.{◌≡◌, ◌≢◌, ◌∙◌, List, Ok, Err, refl, sym, ap, subst, arith}
use Rattle.std.proofs.lemmas.Grind.{common_steps}
use Rattle.csv.specs.Reading.{strip_bom}
use Rattle.ps_lines.specs.Lines.{Line}
use Rattle.ps_lines.specs.Reader.{Gives, left, line_of}
use Rattle.ps_bench_logs.specs.Fields.{fields_of}
use Rattle.ps_bench_logs.specs.Header.{header_said}
use Rattle.ps_bench_logs.specs.Log.{log_lines}
use Rattle.ps_bench_logs.specs.declared.flaw.Flaw.TheVariants.{V1}
use Rattle.ps_bench_logs.proofs.Sizes.{names_sized}
use Rattle.ps_bench_logs.specs.Lines.{IsHeader, turn_of}
use Rattle.ps_bench_logs.specs.declared.recording.RecordFail.{RecordFail}
use Rattle.ps_bench_logs.specs.declared.recording.Turn.TheVariants.{Row}
use Rattle.ps_bench_logs.proofs.Rows.{header_came, header_lost}
use Rattle.ps_bench_logs.proofs.recording.read_header.Goals as goal

pub returns-in_default-clause-header : goal.returns-in_default-clause-header
returns-in_default-clause-header g c = λ tells text held.
    let new = c.next_line.new.self in
    let gives = subst (λ (ls : List Line). Gives ls c.in-Ok.got (line_of new) (left new text)) (c.requires.fresh.all_left text) (c.in-Ok.ensures.gives tells text held (c.requires.fresh.reads text)) in
    let other : turn_of c.in-Ok.got ≢ Row = grind (arith, common_steps) in
    subst (λ (fail : RecordFail). IsHeader c.args.app.now (log_lines text) (left new text) (Err fail)) (sym c.refused.ensures)
    (V1, header_lost c.args.app.now (log_lines text) (left new text) (line_of new) c.in-Ok.got gives other, refl)

pub returns-in-Ok-Ok-clause-header : goal.returns-in-Ok-Ok-clause-header
returns-in-Ok-Ok-clause-header g c = λ tells text held.
    let new = c.next_line.new.self in
    let gives = subst (λ (ls : List Line). Gives ls c.in-Ok.got (line_of new) (left new text)) (c.requires.fresh.all_left text) (c.in-Ok.ensures.gives tells text held (c.requires.fresh.reads text)) in
    let turn : turn_of c.in-Ok.got ≡ Row = grind (arith, common_steps) in
    let came = header_came c.args.app.now (log_lines text) (left new text) (line_of new) c.in-Ok.got gives turn in
    let said : header_said c.args.app.now c.line.result.now ≡ Ok c.in-Ok-Ok.table = grind (arith, common_steps) in
    (came.0 ∙ ap (header_said c.args.app.now) (sym c.line.ensures) ∙ said, came.1)

pub returns-in-Ok-Ok-clause-inputs : goal.returns-in-Ok-Ok-clause-inputs
returns-in-Ok-Ok-clause-inputs g c =
    let said : header_said c.args.app.now c.line.result.now ≡ Ok c.in-Ok-Ok.table = grind (arith, common_steps) in
    names_sized c.args.app.now (fields_of (strip_bom c.line.result.now)) c.in-Ok-Ok.table said

pub returns-in-Ok-Err-clause-header : goal.returns-in-Ok-Err-clause-header
returns-in-Ok-Err-clause-header g c = λ tells text held.
    let new = c.next_line.new.self in
    let gives = subst (λ (ls : List Line). Gives ls c.in-Ok.got (line_of new) (left new text)) (c.requires.fresh.all_left text) (c.in-Ok.ensures.gives tells text held (c.requires.fresh.reads text)) in
    let turn : turn_of c.in-Ok.got ≡ Row = grind (arith, common_steps) in
    let came = header_came c.args.app.now (log_lines text) (left new text) (line_of new) c.in-Ok.got gives turn in
    let said : header_said c.args.app.now c.line.result.now ≡ Err c.in-Ok-Err.flaw = grind (arith, common_steps) in
    subst (λ (fail : RecordFail). IsHeader c.args.app.now (log_lines text) (left new text) (Err fail)) (sym c.refused-in-Ok-Err.ensures)
    (c.in-Ok-Err.flaw, came.0 ∙ ap (header_said c.args.app.now) (sym c.line.ensures) ∙ said, refl)
