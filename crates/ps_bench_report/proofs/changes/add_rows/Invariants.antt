use Rattle.std.proofs.Common.{◌≡◌, ◌++◌, drop, None}
use Rattle.std.specs.Prelude.{option_map}
use Rattle.ps_bench_report.specs.Paged.{OnWhole}
use Rattle.ps_bench_report.specs.Changes.{rows_from}
use Rattle.ps_bench_report.proofs.changes.add_rows.Given as goal

abbrev pub invariant-loop-moment : goal.invariant-loop-moment
invariant-loop-moment l =
    let r = l.sheet.recording.now in
    OnWhole l.initial.page l.page (λ before after.
    (after ++ rows_from l.sheet.app.now r.names.items l.sheet.marks.now (option_map (λ m. m.now) l.before) (drop l.moment-index r.moments.items))
    ≡ (before ++ rows_from l.sheet.app.now r.names.items l.sheet.marks.now None r.moments.items))
