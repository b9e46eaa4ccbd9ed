use Rattle.std.proofs.Common.{◌≡◌, ◌<◌, ◌∙◌, ℕ, List, length, subst, arith}
use Rattle.std.proofs.lemmas.Grind.{common_steps}
use Rattle.std.proofs.lemmas.List.{with_items_is}
use Rattle.ps_bench_logs.specs.Header.{Columns}
use Rattle.ps_bench_logs.specs.Rows.{Said, line_said}
use Rattle.ps_bench_logs.specs.Saying.{parts_said, said_by}
use Rattle.ps_bench_logs.specs.declared.fields.Span.{Span}
use Rattle.ps_bench_logs.proofs.Rowing.{row_by_parts}
use Rattle.ps_bench_logs.proofs.table.Table.read_row.Goals as goal

pub returns-clause-says : goal.returns-clause-says
returns-clause-says c =
    let line = c.args.line.now in
    let last = c.args.last in
    let table = c.self.inside in
    let spans : List Span = c.cut.new.spans in
    let said : Said = said_by c.judge.result c.judge.new.ins in
    let cut = c.in-Some.ensures.cut in
    let some : 0 < length line = grind (arith, common_steps) in
    let size : length spans ≡ table.spans.len = grind (arith, common_steps) in
    let as_many : length table.spans.items ≡ length spans = grind (arith, common_steps) in
    let all : c.in-Some.count ≡ length spans = grind (arith, common_steps) in
    let inputs_are = subst (λ (ks : List ℕ). parts_said line c.deref.result.now table.time table.restart ks last ≡ said) c.deref-2.ensures.value c.judge.ensures.says in
    let spans_are : c.deref.result.now ≡ spans = c.deref.ensures.value ∙ with_items_is table.spans spans size in
    let says = subst (λ (s : List Span). parts_said line s table.time table.restart table.inputs.items last ≡ said) spans_are inputs_are in
    subst (λ (t : Columns). line_said t last line ≡ said) c.self.view_is
    (row_by_parts (length table.spans.items) table.time table.restart table.inputs.items line last spans cut.0 c.in-Some.count some cut.1 all as_many ∙ says)
