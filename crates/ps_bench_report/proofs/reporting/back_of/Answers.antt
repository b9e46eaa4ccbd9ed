use Rattle.std.proofs.Common.{◌++◌, ◌∙◌, ap}
use Rattle.ps_bench_report.specs.Contents.{back_pieces}
use Rattle.ps_bench_report.specs.Paged.{Paged}
use Rattle.ps_bench_report.proofs.reporting.back_of.Goals as goal

pub returns : goal.returns
returns c = λ whole. (c.add_back.ensures whole).1 ∙ ap (λ (p : Paged). p.pieces ++ back_pieces c.args.texts.now) c.new-page.ensures
