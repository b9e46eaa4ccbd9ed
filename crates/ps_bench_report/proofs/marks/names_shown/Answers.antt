use Rattle.std.proofs.Common.{◌≡◌, ◌∙◌, ◌+◌, [], sym}
use Rattle.std.specs.Prelude.{fold, min}
use Rattle.std.specs.List.{range_with_len}
use Rattle.std.proofs.lemmas.List.Sums.{fold-append}
use Rattle.ps_bench_cases.specs.declared.case.Statement.{Statement}
use Rattle.ps_bench_report.specs.Marks.{io_count, names_of, with_code, with_expected, with_signal, with_statements}
use Rattle.ps_bench_report.proofs.marks.names_shown.Goals as goal

pub returns : goal.returns
returns c =
    let net = c.args.app.now in
    let begin = c.args.file.now.begin in
    let count : c.saturating_add.result ≡ io_count net =
    c.saturating_add.ensures ∙ (λ i. min (c.input_count.ensures i + c.output_count.ensures i) 65535) in
    let signals : c.push_signals.new.names.items ≡ fold with_signal [] (range_with_len 0 (io_count net)) =
    c.in_ok-push_signals.ensures ∙ (λ i. fold with_signal (c.new-names.ensures.items i) (range_with_len 0 (count i))) in
    let all : c.push_codes.new.names.items ≡ names_of net =
    c.in_ok-push_codes.ensures ∙ (λ i. fold with_code (signals i) (range_with_len 0 (c.instance_count.ensures i))) in
    let first : c.push_all_expected.new.names.items ≡ with_statements (names_of net) begin =
    c.in_ok-push_all_expected.ensures ∙ (λ i. with_statements (all i) (c.as_slice.ensures i)) in
    c.in_ok-push_all_expected-2.ensures ∙ (λ i. with_statements (first i) (c.as_slice-2.ensures i))
    ∙ sym (fold-append (λ ns (s : Statement). with_expected ns s.act) (names_of net) begin c.args.case.now.statements)
