use Rattle.std.proofs.Common.{◌≡◌, None, Option, subst}
use Rattle.std.specs.Prelude.{IfNone}
use Rattle.ps_accepted.proofs.Sourced.{some_of}
use Rattle.ps_bench_cases.specs.Alone.{alone, case_with}
use Rattle.ps_bench_cases.specs.Expanded.{expanded}
use Rattle.ps_trace.specs.FaultOrder.{AreInOrder, AreOfOneChannel}
use Rattle.ps_bench_frame.proofs.Leaving.{quiet_heard, reads_none}
use Rattle.ps_bench_trace.proofs.Plays.{of_some, same_trace}
use Rattle.ps_bench_trace.specs.declared.playing.Play.{Play}
use Rattle.ps_bench_trace.proofs.playing.read_one.Goals as goal

pub returns-in-Err : goal.returns-in-Err
returns-in-Err g c = record {
  comes = c.in-Err.ensures.opens;
  reads = record { quiet = c.in-Err.ensures.reads.quiet; stops = c.in-Err.ensures.reads.stops };
}

pub returns-in-Ok-Some : goal.returns-in-Ok-Some
returns-in-Ok-Some g c =
    let play = c.in-Ok-Some.play in
    let is_some = c.in-Ok-Some.field-0-is in
    let held = (g.C.Call.seen c.args.call.now).files.held c.args.name.now in
    record {
      comes = (
        λ tells trace is.
            let text = some_of held (c.in-Ok.ensures.opens.1 tells) in
            let found = of_some _ c.in-Ok-Some.field-0 play is_some c.in-Ok-Some.ensures.play in (
              text.0,
              text.1,
              c.in-Ok.file,
              c.in-Ok.ensures.opens.0 tells text.0 text.1,
              (found.0, found.1, same_trace play.cases held (expanded c.args.opened.now.app (alone c.in-Ok.file found.0)) trace found.2 is, found.3),
            ),
        of_some (λ (p : Play). AreInOrder p.faults) c.in-Ok-Some.field-0 play is_some c.in-Ok-Some.ensures.ordered,
        of_some (λ (p : Play). AreOfOneChannel p.faults) c.in-Ok-Some.field-0 play is_some c.in-Ok-Some.ensures.one_channel,
      );
      reads = record { quiet = c.in-Ok.ensures.reads.quiet; stops = tt };
    }

pub returns-in-Ok-None : goal.returns-in-Ok-None
returns-in-Ok-None g c = record {
  comes = λ tells.
      let text = some_of ((g.C.Call.seen c.args.call.now).files.held c.args.name.now) (c.in-Ok.ensures.opens.1 tells) in (
        text.0,
        text.1,
        c.in-Ok.file,
        c.in-Ok.ensures.opens.0 tells text.0 text.1,
        subst (λ (o : Option Play). IfNone o (case_with c.args.line c.in-Ok.file.cases ≡ None)) c.in-Ok-None.field-0-is c.in-Ok-None.ensures.none,
      );
  reads = record { quiet = quiet_heard _ _ _ c.in-Ok.ensures.reads.quiet c.hear_no_case.ensures; stops = tt };
}

pub returns : goal.returns
returns g c = record {
  comes = tt;
  reads = reads_none _ _ _ c.in-Ok.ensures.reads.quiet;
}
