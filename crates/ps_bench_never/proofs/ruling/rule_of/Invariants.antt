use Rattle.std.proofs.Common.{take}
use Rattle.ps_bench_never.specs.Asked.{AreAlike, IsCheckOf}
use Rattle.ps_bench_never.proofs.ruling.rule_of.Given as goal

-- those that are there stand for those that were taken
abbrev pub invariant-loop-condition : goal.invariant-loop-condition
invariant-loop-condition l = AreAlike (IsCheckOf l.app) (take l.condition-index l.rule.conditions) l.checks.items
