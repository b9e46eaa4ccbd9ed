use Rattle.std.proofs.Common.{◌≡◌, ◌<◌, ◌∙◌, length, get_or, ap, arith}
use Rattle.ps_bench_rules.specs.declared.rules.Condition.{Condition}
use Rattle.ps_bench_never.specs.Asked.{IsCheckOf}
use Rattle.ps_bench_never.proofs.Matching.{alike_more}
use Rattle.ps_bench_never.proofs.ruling.rule_of.Goals as goal

pub loop-condition-preserved : goal.loop-condition-preserved
loop-condition-preserved c =
    let i = c.loop-condition.condition-index in
    let x : Condition = c.condition-item.result in
    let all : c.as_slice-condition-items.result.now ≡ c.args.rule.now.conditions = c.as_slice-condition-items.ensures in
    let inside : i < length c.args.rule.now.conditions = omega (arith, ap length all) in
    alike_more (IsCheckOf c.args.app.now) c.args.rule.now.conditions i x c.loop-condition.checks.items c.push.new.self.items c.in_ok-check_of.field-0
    inside (c.condition-item.is ∙ ap (λ xs. get_or xs i x) all) c.in_ok-push.ensures.items c.loop-condition.invariant c.in_ok-check_of.ensures
