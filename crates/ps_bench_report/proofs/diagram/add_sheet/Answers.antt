use Rattle.std.proofs.Common.{◌∙◌, ◌++◌, List, [], ◌∷◌, ap, length}
use Rattle.std.specs.List.{flat_map}
use Rattle.ps_bench_report.specs.declared.names.Tag.TheVariants.{Figure}
use Rattle.ps_bench_report.specs.declared.page.Piece.{Piece}
use Rattle.ps_bench_report.specs.declared.page.Piece.TheVariants.{Begin, Inside}
use Rattle.ps_bench_report.proofs.Picturing.{joined}
use Rattle.ps_bench_report.specs.Changes.{changes_pieces}
use Rattle.ps_bench_report.specs.Sheets.{caption_pieces, picture_pieces}
use Rattle.ps_bench_report.proofs.diagram.add_sheet.Goals as goal

pub returns : goal.returns
returns c = λ whole.
    let s = c.args.sheet.now in
    let r = s.recording.now in
    let changes = c.add_changes.ensures whole in
    let below = c.join.ensures.pieces changes.0 in
    let shown = c.in_ok-add_pictures.ensures below.0 in
    let caption = c.caption_of.ensures (c.join.ensures.whole changes.0) in
    let first = c.add_parts.ensures shown.0 in (
      first.0,
      record {
        pictures = shown.1.pictures;
        shows = shown.1.shows;
        drawn = shown.1.drawn;
        is = joined c.args.page.now.pieces c.add_parts.new.page.pieces c.add_pictures.new.page.pieces c.join.new.self.pieces
            c.add_changes.new.page.pieces (Begin Figure ∷ Inside ∷ [])
            (flat_map (picture_pieces s.app.now s.marks.now s.lanes.now) shown.1.pictures) (caption_pieces r (length s.lanes.now))
            (changes_pieces s.app.now r.names.items s.marks.now r.moments.items) first.1 shown.1.is
            (below.1 ∙ ap (λ (t : List Piece). c.add_pictures.new.page.pieces ++ t) caption) changes.1;
      },
    )
