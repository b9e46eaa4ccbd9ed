use Rattle.std.proofs.Common.{ℕ, List, IfOk, subst}
use Rattle.ps_bench_messages.specs.Telling.{IsAdvised}
use Rattle.ps_bench_messages.proofs.summed.sum_message.Goals as goal

pub returns : goal.returns
returns c =
    subst (λ (rule : List ℕ). IfOk c.said_message.result (IsAdvised rule c.args.refusal.line c.args.file.now c.args.text.now))
    c.said_at-said.ensures c.said_message.ensures
