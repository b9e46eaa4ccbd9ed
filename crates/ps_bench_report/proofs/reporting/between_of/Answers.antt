use Rattle.std.proofs.Common.{◌++◌, ◌∙◌, ap}
use Rattle.ps_bench_report.specs.Contents.{cases_front}
use Rattle.ps_bench_report.specs.Paged.{Paged}
use Rattle.ps_bench_report.proofs.reporting.between_of.Goals as goal

pub returns : goal.returns
returns c = λ whole. (c.open_sections.ensures whole).1 ∙ ap (λ (p : Paged). p.pieces ++ cases_front c.args.total.now) c.new-page.ensures
