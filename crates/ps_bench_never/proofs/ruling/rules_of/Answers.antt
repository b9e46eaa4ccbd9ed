use Rattle.std.proofs.Common.{◌<◌, length, arith}
use Rattle.ps_bench_never.specs.Asked.{IsRuleOf}
use Rattle.ps_bench_never.proofs.Matching.{alike_more}
use Rattle.ps_bench_never.proofs.ruling.rules_of.Goals as goal

pub loop-rule-preserved : goal.loop-rule-preserved
loop-rule-preserved c =
    let i = c.loop-rule.rule-index in
    let inside : i < length c.args.rules.now = omega arith in
    alike_more (IsRuleOf c.args.app.now) c.args.rules.now i c.rule-item.result c.loop-rule.asked.items c.push.new.self.items c.in_ok-rule_of.field-0
    inside c.rule-item.is c.in_ok-push.ensures.items c.loop-rule.invariant c.in_ok-rule_of.ensures
