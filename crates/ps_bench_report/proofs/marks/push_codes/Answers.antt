use Rattle.std.proofs.Common.{◌≡◌, ◌∙◌, ◌+◌, ◌-◌, suc, List, sym, ap, arith}
use Rattle.std.specs.Prelude.{fold}
use Rattle.std.specs.List.{range_with_len}
use Rattle.ps_bench_report.specs.Marks.{with_code}
use Rattle.ps_bench_names.specs.declared.name.Name.{Name}
use Rattle.ps_bench_report.proofs.marks.push_codes.Goals as goal

pub loop-instance-preserved : goal.loop-instance-preserved
loop-instance-preserved c =
    let k = c.loop-instance.instance in
    let count = c.args.count in
    let more : count - k ≡ suc (count - (k + 1)) = omega arith in
    ap (λ (names : List Name). fold with_code names (range_with_len (k + 1) (count - (k + 1)))) c.in_ok-push_name.ensures
    ∙ sym (ap (λ n. fold with_code c.loop-instance.names.items (range_with_len k n)) more) ∙ c.loop-instance.invariant

pub loop-instance-init : goal.loop-instance-init
loop-instance-init c =
    let all : c.args.count - 0 ≡ c.args.count = omega arith in
    ap (λ n. fold with_code c.args.names.now.items (range_with_len 0 n)) all

pub returns : goal.returns
returns c =
    let k = c.loop-instance.instance in
    let none : c.args.count - k ≡ 0 = omega (arith, c.loop-instance-test.false) in
    sym (ap (λ n. fold with_code c.loop-instance.names.items (range_with_len k n)) none) ∙ c.loop-instance.invariant
