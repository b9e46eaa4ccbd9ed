use Rattle.std.proofs.Common.{◌∙◌}
use Rattle.ps_bench_trials.proofs.Held.{named_held}
use Rattle.ps_bench_trials.proofs.naming.name_of_file.Goals as goal

pub returns-in-Ok-clause-names : goal.returns-in-Ok-clause-names
returns-in-Ok-clause-names g c = λ tells.
    named_held (g.F.Files.held c.args.files.now c.args.name.now) c.as_slice.result.now c.name_of.result (c.in-Ok.ensures.found tells)
    (λ text is. c.as_slice.ensures ∙ c.in-Ok.ensures.bytes tells text is) c.name_of.ensures.name
