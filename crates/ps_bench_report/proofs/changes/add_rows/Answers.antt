use Rattle.std.proofs.Common.{◌≡◌, ◌∙◌, ◌+◌, ◌++◌, ◌∷◌, suc, List, Some, add-one, append_assoc, drop, sym, ap, subst}
use Rattle.std.specs.Prelude.{option_map}
use Rattle.std.proofs.Math.Seq.{drop-cons}
use Rattle.ps_bench_report.specs.declared.page.Piece.{Piece}
use Rattle.ps_bench_report.specs.Changes.{row_of, rows_from}
use Rattle.ps_bench_report.specs.declared.recording.Moment.{Moment}
use Rattle.ps_bench_report.proofs.changes.add_rows.Goals as goal

pub loop-moment-preserved : goal.loop-moment-preserved
loop-moment-preserved c = λ whole.
    let s = c.args.sheet.now in
    let r = s.recording.now in
    let names = r.names.items in
    let marks = s.marks.now in
    let moments = r.moments.items in
    let k = c.loop-moment.moment-index in
    let m = c.moment-item.result in
    let items = c.as_slice-moment-items.result.now in
    let before = option_map (λ m. m.now) c.loop-moment.before in
    let page = c.loop-moment.page.pieces in
    let row = row_of s.app.now names marks before m in
    let rest = rows_from s.app.now names marks (Some m) (drop (k + 1) moments) in
    let added = c.add_row.ensures whole in
    let far = c.loop-moment.invariant added.0 in
    let split : drop k items ≡ m ∷ drop (k + 1) items =
    drop-cons items k m c.loop-moment-test.true ∙ ap (λ (x : Moment). x ∷ drop (suc k) items) (sym c.moment-item.is)
    ∙ ap (λ n. m ∷ drop n items) (sym (add-one k)) in
    let first = subst (λ (ms : List Moment). drop k ms ≡ m ∷ drop (k + 1) ms) c.as_slice-moment-items.ensures.value split in (
      far.0,
      ap (λ (ps : List Piece). ps ++ rest) added.1 ∙ append_assoc page row rest
          ∙ ap (λ (ms : List Moment). page ++ rows_from s.app.now names marks before ms) (sym first) ∙ far.1,
    )
