use Rattle.std.specs.Prelude.{◌++◌, codes}
use Rattle.ps_bench_report.proofs.Adding.{adds_behind, told}
use Rattle.ps_bench_report.specs.Contents.{claims_part}
use Rattle.ps_bench_report.specs.Files.{text_part}
use Rattle.ps_bench_report.specs.Texts.{no_coverage, no_demands, no_notes, no_source}
use Rattle.ps_bench_report.proofs.texts.add_texts.Goals as goal

pub returns : goal.returns
returns c =
    let t = c.args.texts.now in
    let p = c.args.page.now in
    let p1 = c.add_text.new.page in
    let p2 = c.add_text-2.new.page in
    let p3 = c.add_text-3.new.page in
    let p4 = c.add_text-4.new.page in
    let p5 = c.add_claims.new.page in
    let source = text_part (codes "Application") t.source no_source in
    let notes = text_part (codes "Notes") t.notes no_notes in
    let demands = text_part (codes "Demands") t.demands no_demands in
    let coverage = text_part (codes "Coverage") t.coverage no_coverage in
    adds_behind p p4 p5 (source ++ notes ++ demands ++ coverage) claims_part
    (adds_behind p p3 p4 (source ++ notes ++ demands) coverage
    (adds_behind p p2 p3 (source ++ notes) demands
    (adds_behind p p1 p2 source notes (told p p1 (codes "Application") t.source _ no_source c.as_slice.ensures c.add_text.ensures)
    (told p1 p2 (codes "Notes") t.notes _ no_notes c.as_slice-2.ensures c.add_text-2.ensures))
    (told p2 p3 (codes "Demands") t.demands _ no_demands c.as_slice-3.ensures c.add_text-3.ensures))
    (told p3 p4 (codes "Coverage") t.coverage _ no_coverage c.as_slice-4.ensures c.add_text-4.ensures))
    c.add_claims.ensures
