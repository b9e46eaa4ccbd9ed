use Rattle.std.proofs.lemmas.Result.{IfOk-weaker}
use Rattle.ps_bench_words.proofs.Adding.{formed}
use Rattle.ps_bench_words.proofs.command.with_form.Goals as goal

pub returns-in-Ok : goal.returns-in-Ok
returns-in-Ok c = IfOk-weaker c.subcommand.result _ _
    (λ new adds. formed _ _ new _ c.in-Ok.ensures.app c.in-Ok.ensures.local adds) c.subcommand.ensures
