use Rattle.std.proofs.Common.{[], ◌∷◌}
use Rattle.ps_bench_report.proofs.Adding.{adds_behind}
use Rattle.ps_bench_report.specs.Contents.{texts_pieces}
use Rattle.ps_bench_report.specs.declared.names.Tag.TheVariants.{Main, Section}
use Rattle.ps_bench_report.specs.declared.page.Piece.TheVariants.{End, Epilogue}
use Rattle.ps_bench_report.proofs.texts.add_back.Goals as goal

pub returns : goal.returns
returns c =
    adds_behind c.args.page.now c.close.new.self c.add_parts.new.page (End Section ∷ []) _ c.close.ensures
    (adds_behind c.close.new.self c.add_texts.new.page c.add_parts.new.page (texts_pieces c.args.texts.now) (End Main ∷ Epilogue ∷ []) c.add_texts.ensures c.add_parts.ensures)
