use Rattle.std.proofs.Common.{◌≡◌, ◌∙◌, ℕ, List, length, refl, sym, ap, subst, arith}
use Rattle.ps_bench_report.proofs.Picturing.{SoFar, all_done, no_picture, none_left, one_more, some_left}
use Rattle.ps_bench_report.specs.declared.recording.Moment.{Moment}
use Rattle.ps_bench_report.specs.Ground.{front_of}
use Rattle.ps_bench_report.specs.Scale.{side_by_side, unit_of}
use Rattle.ps_bench_report.specs.Sheets.{height_of}
use Rattle.ps_bench_report.proofs.diagram.add_pictures.Goals as goal

pub loop-picture-init : goal.loop-picture-init
loop-picture-init c = λ whole.
    let s = c.args.sheet.now in
    let moments = s.recording.now.moments.items in
    let pieces = c.args.page.now.pieces in (
      whole,
      subst (λ (ms : List Moment). SoFar s.app.now s.id.now s.marks.now s.lanes.now moments pieces 0 ms pieces)
          (sym c.as_slice-moments.ensures.value) (no_picture s.app.now s.id.now s.marks.now s.lanes.now moments pieces),
    )

pub loop-picture-preserved : goal.loop-picture-preserved
loop-picture-preserved c = λ whole.
    let s = c.args.sheet.now in
    let l = c.loop-picture in
    let added = c.add_picture.ensures.added whole in
    let far = l.invariant added.0 in (
      far.0,
      one_more s.app.now s.id.now s.marks.now s.lanes.now s.recording.now.moments.items c.args.page.now.pieces l.picture l.rest.now l.page.pieces
          c.add_picture.new.page.pieces c.in_ok-front.front.pieces c.as_slice-scans.result.now c.in_ok-first.first.items
          (length c.as_slice-scans.result.now) c.split_at.result.1.now far.1 added.1 c.as_slice-scans.ensures.value c.in_ok-first.ensures.shown
          c.in_ok-first.ensures.some (some_left l.rest.now c.is_empty.result c.is_empty.ensures c.if-is_empty.false) refl c.split_at.ensures.back
          (c.in_ok-front.ensures (c.add_picture.ensures.front whole)
          ∙ ap (λ (n : ℕ). front_of s.id.now n (height_of (length s.lanes.now)) s.lanes.now c.as_slice-scans.result.now) c.min.ensures)
          (c.in_ok-first.ensures.stands ∙ ap (λ (unit : ℕ). side_by_side s.marks.now unit l.rest.now) (c.unit_of-unit.ensures ∙ ap unit_of c.as_slice-moments.ensures.value)),
    )

pub returns-then-is_empty : goal.returns-then-is_empty
returns-then-is_empty c = λ whole.
    let s = c.args.sheet.now in
    let l = c.loop-picture in
    let far = l.invariant whole in (
      far.0,
      all_done s.app.now s.id.now s.marks.now s.lanes.now s.recording.now.moments.items c.args.page.now.pieces l.picture l.rest.now l.page.pieces far.1
          (none_left l.rest.now c.is_empty.result c.is_empty.ensures c.if-is_empty.true),
    )

pub returns : goal.returns
returns c = λ whole.
    let s = c.args.sheet.now in
    let l = c.loop-picture in
    let far = l.invariant whole in
    let left = far.1.left in
    let same = ap length c.as_slice-moments.ensures.value in
    let none : length l.rest.now ≡ 0 = omega (arith, left, c.loop-picture-test.false, same) in (
      far.0,
      all_done s.app.now s.id.now s.marks.now s.lanes.now s.recording.now.moments.items c.args.page.now.pieces l.picture l.rest.now l.page.pieces far.1 none,
    )
