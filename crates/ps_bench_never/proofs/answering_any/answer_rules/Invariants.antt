use Rattle.std.proofs.Common.{take}
use Rattle.ps_bench_never.specs.Asked.{AreAlike}
use Rattle.ps_bench_never.specs.AnsweringAny.{IsToldAlone}
use Rattle.ps_bench_never.proofs.answering_any.answer_rules.Given as goal

-- what is told stands for the rules that were taken
abbrev pub invariant-loop-rule : goal.invariant-loop-rule
invariant-loop-rule g l = AreAlike (IsToldAlone l.app l.name l.most l.file) (take l.rule-index l.file.rules) l.tolds.items
