use Rattle.std.proofs.Common.{◌∙◌}
use Rattle.std.proofs.lemmas.Result.{IfOk-weaker}
use Rattle.ps_bench_words.specs.Commands.{bare}
use Rattle.ps_bench_words.proofs.Groups.{whole}
use Rattle.ps_bench_words.proofs.command.program.Goals as goal

pub returns : goal.returns
returns c = IfOk-weaker c.with_group.result _ _
    (λ p is. is ∙ whole _ _ _ _ _ c.of_cases.ensures c.of_traces.ensures c.of_searches.ensures c.of_campaigns.ensures c.of_pages.ensures)
    (c.with_group.ensures _ (c.with_group-campaigns.ensures _ (c.with_group-searches.ensures _ (c.with_group-traces.ensures _
    (c.with_group-cases.ensures bare c.bare_program.ensures)))))
