use Rattle.std.proofs.Common.{◌≡◌, ◌∙◌, ℕ, List, Ok, length, sym, ap, subst, arith}
use Rattle.std.proofs.lemmas.Grind.{common_steps}
use Rattle.std.proofs.lemmas.List.{with_items_is}
use Rattle.ps_bench_logs.specs.Spans.{found_by, parts_said}
use Rattle.ps_bench_logs.specs.declared.fields.Span.{Span}
use Rattle.ps_bench_logs.proofs.Naming.{header_found}
use Rattle.ps_bench_logs.proofs.table.Table.of_header.Goals as goal

pub returns-in-Ok : goal.returns-in-Ok
returns-in-Ok c =
    let spans = c.in-Some.spans.items in
    let line = c.unmarked-line.result.now in
    let cut = rw c.in-Some.is at c.in_ok-spans.ensures.cut in
    let found = subst (λ (s : List Span). parts_said c.args.app.now line s ≡ found_by (length s) c.find_columns.new.inputs c.find_columns.result) c.deref.ensures.value c.find_columns.ensures in
    let size : length c.find_columns.new.inputs ≡ c.in_ok-inputs.inputs.len = grind (arith, common_steps) in
    header_found c.args.app.now c.args.line.now line spans cut.0 c.unmarked-line.ensures cut.1
    ∙ found
    ∙ ap (found_by (length spans) c.find_columns.new.inputs) c.in-Ok.is
    ∙ ap (λ (inputs : List ℕ). Ok (record { width = length spans; time = c.in-Ok.time; restart = c.in-Ok.restart; inputs = inputs })) (sym (with_items_is c.in_ok-inputs.inputs c.find_columns.new.inputs size))

pub returns-in-Err : goal.returns-in-Err
returns-in-Err c =
    let spans = c.in-Some.spans.items in
    let line = c.unmarked-line.result.now in
    let cut = rw c.in-Some.is at c.in_ok-spans.ensures.cut in
    let found = subst (λ (s : List Span). parts_said c.args.app.now line s ≡ found_by (length s) c.find_columns.new.inputs c.find_columns.result) c.deref.ensures.value c.find_columns.ensures in
    header_found c.args.app.now c.args.line.now line spans cut.0 c.unmarked-line.ensures cut.1
    ∙ found
    ∙ ap (found_by (length spans) c.find_columns.new.inputs) c.in-Err.is
