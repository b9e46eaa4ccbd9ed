use Rattle.std.proofs.Common.{◌∙◌, ap}
use Rattle.ps_bench_cover.proofs.Begun.{begun_unseen, begun_whole}
use Rattle.ps_bench_report.specs.Contents.{front_pieces, title_text}
use Rattle.ps_bench_report.specs.Paged.{Paged}
use Rattle.ps_bench_trials.specs.Naming.{digest_text}
use Rattle.std.specs.Prelude.{option_map}
use Rattle.ps_bench_report.proofs.reporting.first_pages.Goals as goal

pub returns : goal.returns
returns c =
    let asked = c.args.asked.now in
    let net = c.args.opened.now.app in
    let cover = c.in_ok-cover.cover in
    let is = c.in_ok-cover.ensures in
    record {
      front = λ whole.
          c.in_ok-front.ensures whole
          ∙ (λ i. front_pieces (title_text (option_map (λ text. text.now) asked.title) asked.app.now) asked.app.now (digest_text (c.as_slice.ensures i)));
      rows = ap (λ (p : Paged). p.pieces) c.new-2.ensures;
      sections = ap (λ (p : Paged). p.pieces) c.new-3.ensures;
      tally = c.none.ensures;
      whole = begun_whole net cover is.points is.none_off is.none_on;
      unseen = begun_unseen net cover is.points is.none_off is.none_on;
    }
