use Rattle.std.proofs.Common.{◌++◌, ◌∙◌, ℕ, List, ap, subst}
use Rattle.std.proofs.lemmas.Result.{IfOk-weaker}
use Rattle.ps_bench_report.specs.Contents.{cases_front}
use Rattle.ps_bench_report.specs.Telling.{AreTexts}
use Rattle.ps_bench_report.specs.Writing.{written}
use Rattle.ps_bench_report.proofs.reporting.report_text.Goals as goal

pub returns : goal.returns
returns c = IfOk-weaker c.text_of.result _ _
    (λ page is.
    let sourced = c.args.sourced.now in
    let old = c.args.pages.now in
    let opened = c.open_results.ensures is.front in
    let texts = c.in_ok-texts.texts in
    let between_is = c.between_of-between.ensures is.between_whole ∙ ap cases_front (c.as_slice.ensures ∙ c.in_ok-total.ensures) in
    let back_is = c.back_of-back.ensures is.back_whole in
    record {
      front = opened.0;
      rows = is.rows;
      sections = is.sections;
      told = texts;
      are = subst (λ (t : List ℕ). AreTexts sourced.opened.app sourced.source c.args.asked.now.app.now t texts) c.as_slice-2.ensures c.in_ok-texts.ensures.texts;
      coverage = c.in_ok-texts.ensures.coverage;
      is = is.is ∙ (λ i. written (opened.1 i ++ old.rows.pieces ++ between_is i ++ old.sections.pieces ++ back_is i));
    }) c.text_of.ensures
