use Rattle.std.proofs.Common.{◌∙◌}
use Rattle.ps_bench_trials.proofs.Behind.{by_form, file_tells, no_read}
use Rattle.ps_bench_trials.proofs.adding.read_file.Goals as goal

pub returns-in-Ok-clause-tells : goal.returns-in-Ok-clause-tells
returns-in-Ok-clause-tells g c = λ tells.
    file_tells (g.F.Files.held c.args.files.now c.args.name.now) c.as_slice.result.now c.totals_of.result (c.in-Ok.ensures.found tells)
    (λ text is. c.as_slice.ensures ∙ c.in-Ok.ensures.bytes tells text is) c.totals_of.ensures.told

pub returns-in-Ok-clause-unread : goal.returns-in-Ok-clause-unread
returns-in-Ok-clause-unread g c = λ n is. no_read c.totals_of.result n c.totals_of.ensures.form is

pub returns-in-Ok-clause-refused : goal.returns-in-Ok-clause-refused
returns-in-Ok-clause-refused g c = λ refusal is. by_form c.totals_of.result refusal c.totals_of.ensures.form is
