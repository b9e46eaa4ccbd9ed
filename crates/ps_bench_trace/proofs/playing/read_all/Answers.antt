use Rattle.std.proofs.Common.{List, ℕ, Option, []}
use Rattle.ps_accepted.proofs.Sourced.{some_of}
use Rattle.ps_bench_cases.specs.Expanded.{expanded}
use Rattle.ps_trace.specs.FaultOrder.{AreInOrder, AreOfOneChannel}
use Rattle.ps_bench_frame.proofs.Leaving.{reads_none}
use Rattle.ps_bench_trace.proofs.Plays.{no_faults_ordered, no_faults_of_one, same_trace}
use Rattle.ps_bench_trace.proofs.playing.read_all.Goals as goal

pub returns-in-Err : goal.returns-in-Err
returns-in-Err g c = record {
  comes = c.in-Err.ensures.opens;
  reads = record { quiet = c.in-Err.ensures.reads.quiet; stops = c.in-Err.ensures.reads.stops };
}

pub returns-in-Ok-play_all : goal.returns-in-Ok-play_all
returns-in-Ok-play_all g c = record {
  comes = (
    λ tells trace is.
        let held = (g.C.Call.seen c.args.call.now).files.held c.args.name.now in
        let text = some_of held (c.in-Ok.ensures.opens.1 tells) in (
          text.0,
          text.1,
          c.in-Ok.file,
          c.in-Ok.ensures.opens.0 tells text.0 text.1,
          (same_trace c.in-Ok-play_all.play.cases held (expanded c.args.opened.now.app c.in-Ok.file) trace c.in-Ok-play_all.ensures.cases is, c.in-Ok-play_all.ensures.faults),
        ),
    no_faults_ordered c.in-Ok-play_all.play.faults c.in-Ok-play_all.ensures.faults,
    no_faults_of_one c.in-Ok-play_all.play.faults c.in-Ok-play_all.ensures.faults,
  );
  reads = record { quiet = c.in-Ok.ensures.reads.quiet; stops = tt };
}

pub returns : goal.returns
returns g c = record {
  comes = tt;
  reads = reads_none _ _ _ c.in-Ok.ensures.reads.quiet;
}
