use Rattle.std.proofs.Common.{◌≡◌, ◌<◌, ◌∙◌, length, get_or, ap, arith}
use Rattle.ps_bench_rules.specs.declared.rules.Rule.{Rule}
use Rattle.ps_bench_never.specs.AnsweringAny.{IsToldAlone}
use Rattle.ps_bench_never.proofs.Matching.{alike_more}
use Rattle.ps_bench_never.proofs.answering_any.answer_rules.Goals as goal

pub loop-rule-preserved : goal.loop-rule-preserved
loop-rule-preserved g c =
    let i = c.loop-rule.rule-index in
    let x : Rule = c.rule-item.result in
    let all : c.as_slice-rules.result.now ≡ c.args.file.now.rules = c.as_slice-rules.ensures in
    let inside : i < length c.args.file.now.rules = omega (arith, ap length all) in
    alike_more (IsToldAlone c.args.app.now c.args.name.now c.args.most c.args.file.now) c.args.file.now.rules i x c.loop-rule.tolds.items
    c.add_told.new.tolds.items c.in_ok-told.told inside (c.rule-item.is ∙ ap (λ xs. get_or xs i x) all) c.in_ok-add_told.ensures c.loop-rule.invariant
    c.in_ok-told.ensures.tells
