use Rattle.std.proofs.Common.{◌≡◌, ◌-◌, ◌++◌, ℕ, OnOk, codes, length, subst, arith}
use Rattle.ps_bench_never.specs.Telling.{head_text}
use Rattle.ps_bench_never.specs.TellingAny.{uncased_text}
use Rattle.ps_bench_never.proofs.JoiningAny.{three_more}
use Rattle.ps_bench_never.proofs.telling_any.add_untimed.Goals as goal

pub returns : goal.returns
returns c =
    let head = head_text c.args.file.now c.args.rule.now in
    let scans : c.saturating_sub.result ≡ length c.args.path.now.inputs.items - 1 = omega (arith, c.saturating_sub.ensures, c.len.ensures) in
    three_more c.add_uncased.result c.args.text.now (codes "OPEN ") head (uncased_text (length c.args.path.now.inputs.items - 1))
    c.extend_from_slice.new.self c.add_head.new.text c.add_uncased.new.text c.in_ok-extend_from_slice.ensures c.in_ok-add_head.ensures
    (subst (λ (n : ℕ). OnOk c.add_uncased.result (c.add_uncased.new.text ≡ c.add_head.new.text ++ uncased_text n)) scans c.add_uncased.ensures)
