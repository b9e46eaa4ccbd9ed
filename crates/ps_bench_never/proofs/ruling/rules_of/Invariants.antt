use Rattle.std.proofs.Common.{take}
use Rattle.ps_bench_never.specs.Asked.{AreAlike, IsRuleOf}
use Rattle.ps_bench_never.proofs.ruling.rules_of.Given as goal

-- those that are there stand for those that were taken
abbrev pub invariant-loop-rule : goal.invariant-loop-rule
invariant-loop-rule l = AreAlike (IsRuleOf l.app) (take l.rule-index l.rules) l.asked.items
