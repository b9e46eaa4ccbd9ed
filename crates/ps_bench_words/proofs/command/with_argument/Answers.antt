use Rattle.std.proofs.lemmas.Result.{IfOk-weaker}
use Rattle.ps_bench_words.proofs.Adding.{added}
use Rattle.ps_bench_words.proofs.command.with_argument.Goals as goal

pub returns-clause-app : goal.returns-clause-app
returns-clause-app c = IfOk-weaker c.arg.result _ _ (λ r adds. (added _ r _ _ c.arg_of.ensures.rule c.arg_of.ensures.local adds).0) c.arg.ensures

pub returns-clause-local : goal.returns-clause-local
returns-clause-local c = IfOk-weaker c.arg.result _ _ (λ r adds. (added _ r _ _ c.arg_of.ensures.rule c.arg_of.ensures.local adds).1) c.arg.ensures
