use Rattle.std.proofs.Common.{◌∙◌, ◌++◌, ap}
use Rattle.ps_bench_report.proofs.Shown.{pages_behind, text_behind}
use Rattle.ps_bench_report.proofs.reporting.text_of.Goals as goal
use Rattle.ps_bench_report.specs.Writing.{written}

pub returns : goal.returns
returns c =
    let p = c.args.pages.now.front.pieces in
    let q = c.args.pages.now.rows.pieces in
    let r = c.args.between.now.pieces in
    let s = c.args.pages.now.sections.pieces in
    let t = c.args.back.now.pieces in
    let one = c.in_ok-add_page.ensures.text ∙ ap (λ x. x ++ written p) c.new-text.ensures in
    let two = text_behind p q _ _ one c.in_ok-add_page-2.ensures.text in
    let three = text_behind (p ++ q) r _ _ two c.in_ok-add_page-3.ensures.text in
    let four = text_behind ((p ++ q) ++ r) s _ _ three c.in_ok-add_page-4.ensures.text in
    record {
      front = c.in_ok-add_page.ensures.whole;
      rows = c.in_ok-add_page-2.ensures.whole;
      between_whole = c.in_ok-add_page-3.ensures.whole;
      sections = c.in_ok-add_page-4.ensures.whole;
      back_whole = c.in_ok-add_page-5.ensures.whole;
      is = text_behind (((p ++ q) ++ r) ++ s) t _ _ four c.in_ok-add_page-5.ensures.text ∙ ap written (pages_behind p q r s t);
    }
