use Rattle.ps_accepted.proofs.Sourced.{some_of}
use Rattle.ps_bench_cases.specs.Expanded.{expanded}
use Rattle.ps_bench_trace.proofs.Plays.{same_trace}
use Rattle.ps_bench_trace.proofs.playing.open_all.Goals as goal

pub returns-in-Err : goal.returns-in-Err
returns-in-Err g c = record {
  means = tt;
  no_faults = tt;
  stops = c.in-Err.ensures.stops;
  unread = c.in-Err.ensures.unread;
  unwritten = λ is. c.in-Err.ensures.unwritten cc;
  unsaid = tt;
  reads = c.in-Err.ensures.reads;
  writes = c.in-Err.ensures.writes;
  kept = c.in-Err.ensures.kept;
  reading = c.in-Err.ensures.reading;
  telling = c.in-Err.ensures.telling;
}

pub returns-in-Ok-play_all : goal.returns-in-Ok-play_all
returns-in-Ok-play_all g c = record {
  means = λ tells trace is.
      let text = some_of (g.F.Files.held c.args.files.now c.args.name.now) (c.in-Ok.ensures.found tells) in (
        text.0,
        text.1,
        c.in-Ok.file,
        c.in-Ok.ensures.of_text tells text.0 text.1,
        (
          same_trace c.in-Ok-play_all.play.cases (g.F.Files.held c.args.files.now c.args.name.now)
              (expanded c.args.opened.now.app c.in-Ok.file) trace c.in-Ok-play_all.ensures.cases is,
          c.in-Ok-play_all.ensures.faults,
        ),
      );
  no_faults = c.in-Ok-play_all.ensures.faults;
  stops = tt;
  unread = tt;
  unwritten = λ is. cc;
  unsaid = c.in-Ok.ensures.unsaid;
  reads = c.in-Ok.ensures.reads;
  writes = c.in-Ok.ensures.writes;
  kept = c.in-Ok.ensures.kept;
  reading = c.in-Ok.ensures.reading;
  telling = c.in-Ok.ensures.telling;
}

pub returns : goal.returns
returns g c = record {
  means = tt;
  no_faults = tt;
  stops = λ tells. c.in-Ok.ensures.unsaid;
  unread = λ is. cc;
  unwritten = λ is. cc;
  unsaid = tt;
  reads = c.in-Ok.ensures.reads;
  writes = c.in-Ok.ensures.writes;
  kept = c.in-Ok.ensures.kept;
  reading = c.in-Ok.ensures.reading;
  telling = c.in-Ok.ensures.telling;
}
