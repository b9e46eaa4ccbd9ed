use Rattle.std.proofs.Common.{◌∙◌, ◌-◌, List, Option, length, ap, subst}
use Rattle.std.specs.Prelude.{slice_get}
use Rattle.ps_bench_report.proofs.Lasting.{last_shown}
use Rattle.ps_bench_report.specs.Recorder.{Stays}
use Rattle.ps_bench_report.specs.Recording.{Frame, frame_of}
use Rattle.ps_bench_report.specs.declared.recording.Moment.{Moment}
use Rattle.ps_bench_report.proofs.recording.Recorder.leaves_out.Goals as goal

pub returns-then-shows_nothing : goal.returns-then-shows_nothing
returns-then-shows_nothing c = λ left.
    subst (λ (o : Option Frame). Stays o (frame_of c.args.moment.now).shot)
    (last_shown c.args.self.now.recording.moments.items c.last.result (c.last.ensures.value ∙ ap (λ (ms : List Moment). slice_get ms (length ms - 1)) c.as_slice.ensures.value))
    (c.shows_nothing.ensures c.if-shows_nothing.true)
