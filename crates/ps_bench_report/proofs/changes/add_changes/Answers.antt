use Rattle.std.proofs.Common.{[], ◌∷◌, None}
use Rattle.ps_bench_report.specs.declared.names.Tag.TheVariants.{Table, Tbody}
use Rattle.ps_bench_report.specs.declared.page.Piece.TheVariants.{End}
use Rattle.ps_bench_report.proofs.Picturing.{joined_three}
use Rattle.ps_bench_report.specs.Changes.{changes_head, rows_from}
use Rattle.ps_bench_report.proofs.changes.add_changes.Goals as goal

pub returns : goal.returns
returns c = λ whole.
    let s = c.args.sheet.now in
    let r = s.recording.now in
    let end = c.add_parts-2.ensures whole in
    let rows = c.add_rows.ensures end.0 in
    let head = c.add_parts.ensures rows.0 in (
      head.0,
      joined_three c.args.page.now.pieces c.add_parts.new.page.pieces c.add_rows.new.page.pieces c.add_parts-2.new.page.pieces
          changes_head (rows_from s.app.now r.names.items s.marks.now None r.moments.items) (End Tbody ∷ End Table ∷ []) head.1 rows.1 end.1,
    )
