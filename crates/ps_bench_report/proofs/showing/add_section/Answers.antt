use Rattle.std.proofs.Common.{◌++◌, ◌∙◌, List, ap, subst}
use Rattle.ps_bench_words.specs.declared.asking.Format.TheVariants.{Text}
use Rattle.ps_bench_report.specs.declared.page.Piece.{Piece}
use Rattle.ps_bench_report.specs.CaseRows.{case_front}
use Rattle.ps_bench_test.specs.Report.{case_text}
use Rattle.ps_bench_report.specs.Known.{IsReadBack}
use Rattle.ps_bench_report.specs.Sections.{HasDiagram}
use Rattle.ps_bench_test.specs.Outcome.{ran_of}
use Rattle.ps_bench_test.specs.declared.outcome.Tally.{Tally}
use Rattle.ps_bench_report.proofs.showing.add_section.Goals as goal

pub returns : goal.returns
returns c =
    let r = ran_of c.args.run.now in
    let name = c.as_bytes.ensures.value ∙ c.as_str.ensures in
    let text = c.as_slice.ensures ∙ c.in_ok-told.ensures ∙ ap (λ (t : Tally). case_text Text t r) c.none.ensures in
    record {
      shown = λ whole.
          let closed = c.close.ensures whole in
          let drawn = c.in_ok-add_drawn.ensures.drawn closed.0 in
          let opened = c.open_case.ensures drawn.0 in
          let page = opened.1 ∙ (λ x. c.args.page.now.pieces ++ case_front (name x) (text x)) in (
            opened.0,
            record {
              drawn = c.add_drawn.new.page.pieces;
              diagram = subst (λ (p : List Piece). HasDiagram IsReadBack c.args.place r p c.add_drawn.new.page.pieces) page drawn.1;
              is = closed.1;
            },
          );
      covers = c.in_ok-add_drawn.ensures.covers;
    }
