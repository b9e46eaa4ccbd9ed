use Rattle.ps_bench_report.proofs.Picturing.{SoFar}
use Rattle.ps_bench_report.proofs.diagram.add_pictures.Given as goal
use Rattle.ps_bench_report.specs.Paged.{OnWhole}

abbrev pub invariant-loop-picture : goal.invariant-loop-picture
invariant-loop-picture l =
    let s = l.sheet in
    OnWhole l.initial.page l.page (λ before after.
    SoFar s.app.now s.id.now s.marks.now s.lanes.now s.recording.now.moments.items before l.picture l.rest after)
