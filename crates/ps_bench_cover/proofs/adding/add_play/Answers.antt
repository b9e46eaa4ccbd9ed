use Rattle.ps_bench_frame.proofs.Leaving.{quiet_same, reads_none}
use Rattle.ps_bench_frame.specs.Meant.{file_meant}
use Rattle.ps_bench_trace.specs.Playing.{trace_held}
use Rattle.ps_bench_cover.proofs.Held.{no_memory, play_added, play_refused}
use Rattle.ps_bench_cover.proofs.adding.add_play.Goals as goal

pub returns-in-Err : goal.returns-in-Err
returns-in-Err g c = record { comes = no_memory; reads = reads_none _ _ _ (quiet_same _) }

pub returns-in-Ok-follow_play : goal.returns-in-Ok-follow_play
returns-in-Ok-follow_play g c =
    let held = trace_held c.args.cases ((g.C.Call.seen c.args.call.now).files.held (file_meant c.args.word.now)) in
    let old = c.in-Ok.runner in
    let new = c.follow_play.new.runner in
    record {
      comes = λ tells.
          play_added c.args.app.now held old.performer new.performer old.taker new.taker c.sound.ensures c.in-Ok.ensures.begins c.args.total.now c.join.new.self c.join.ensures
          (c.in-Ok-follow_play.ensures.follows tells);
      reads = record { quiet = c.in-Ok-follow_play.ensures.reads.quiet; stops = tt };
    }

pub returns : goal.returns
returns g c =
    let held = trace_held c.args.cases ((g.C.Call.seen c.args.call.now).files.held (file_meant c.args.word.now)) in
    let old = c.in-Ok.runner in
    let new = c.follow_play.new.runner in
    record {
      comes = record {
        of_run = c.in-Err-follow_play.ensures.of_run;
        refuses = λ refusal is tells.
            play_refused c.args.app.now held old.performer new.performer old.taker new.taker refusal (c.in-Err-follow_play.ensures.follows tells refusal is);
      };
      reads = record { quiet = c.in-Err-follow_play.ensures.reads.quiet; stops = c.in-Err-follow_play.ensures.reads.stops };
    }

pub follow_play-requires-clause-first : goal.follow_play-requires-clause-first
follow_play-requires-clause-first g c = c.in-Ok.ensures.begins.stands.time
