use Rattle.std.proofs.Common.{◌∙◌, inl, inr, refl, ap, subst}
use Rattle.std.proofs.lemmas.Result.{on_ok_weaker}
use Rattle.ps_bench_report.specs.Recorder.{Stays, last_frame, with_frame}
use Rattle.ps_bench_report.specs.Recording.{Frame, film_of}
use Rattle.ps_bench_report.proofs.recording.Recorder.show.Goals as goal

pub returns-then-leaves_out-clause-shows : goal.returns-then-leaves_out-clause-shows
returns-then-leaves_out-clause-shows c =
    inr (subst (λ (f : Frame). Stays (last_frame (film_of c.args.self.now.recording).frames) f.shot) c.in_ok-moment.ensures (c.leaves_out.ensures c.if-leaves_out.true), refl)

pub returns-clause-shows : goal.returns-clause-shows
returns-clause-shows c = on_ok_weaker c.push.result (λ is. inl (is ∙ ap (with_frame (film_of c.args.self.now.recording)) c.in_ok-moment.ensures)) c.push.ensures
