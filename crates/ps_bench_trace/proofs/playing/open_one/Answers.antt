use Rattle.std.proofs.Common.{◌≡◌, None, Option, refl, subst}
use Rattle.std.specs.Prelude.{IfNone}
use Rattle.ps_accepted.proofs.Sourced.{some_of}
use Rattle.ps_bench_cases.specs.Alone.{alone, case_with}
use Rattle.ps_bench_cases.specs.Expanded.{expanded}
use Rattle.ps_trace.specs.FaultOrder.{AreInOrder, AreOfOneChannel}
use Rattle.ps_bench_frame.specs.Opening.{source}
use Rattle.ps_bench_messages.proofs.Remarked.{not_so, so}
use Rattle.ps_edge.specs.Hearing.{listener_seen}
use Rattle.ps_bench_trace.proofs.Plays.{of_some, same_trace}
use Rattle.ps_bench_trace.proofs.Remarked.{by_text}
use Rattle.ps_bench_trace.specs.declared.playing.Play.{Play}
use Rattle.ps_bench_trace.proofs.playing.open_one.Goals as goal

pub returns-in-Err : goal.returns-in-Err
returns-in-Err g c = record {
  means = tt;
  none = tt;
  ordered = tt;
  one_channel = tt;
  stops = c.in-Err.ensures.stops;
  unread = c.in-Err.ensures.unread;
  unwritten = λ is. c.in-Err.ensures.unwritten cc;
  unsaid = tt;
  reads = c.in-Err.ensures.reads;
  writes = c.in-Err.ensures.writes;
  kept = c.in-Err.ensures.kept;
  reading = c.in-Err.ensures.reading;
  telling = c.in-Err.ensures.telling;
  told = λ tells. not_so _ _ _ _ (λ is. cc) refl;
  stays = tt;
  listening = refl;
}

pub returns-in-Ok-Some : goal.returns-in-Ok-Some
returns-in-Ok-Some g c =
    let play = c.in-Ok-Some.play in
    let is_some = c.in-Ok-Some.field-0-is in
    record {
      means = λ tells trace is.
          let text = some_of (g.F.Files.held c.args.files.now c.args.name.now) (c.in-Ok.ensures.found tells) in
          let found = of_some _ c.in-Ok-Some.field-0 play is_some c.in-Ok-Some.ensures.play in (
            text.0,
            text.1,
            c.in-Ok.file,
            c.in-Ok.ensures.of_text tells text.0 text.1,
            (
              found.0,
              found.1,
              same_trace play.cases (g.F.Files.held c.args.files.now c.args.name.now)
                  (expanded c.args.opened.now.app (alone c.in-Ok.file found.0)) trace found.2 is,
              found.3,
            ),
          );
      none = tt;
      ordered = of_some (λ (p : Play). AreInOrder p.faults) c.in-Ok-Some.field-0 play is_some c.in-Ok-Some.ensures.ordered;
      one_channel = of_some (λ (p : Play). AreOfOneChannel p.faults) c.in-Ok-Some.field-0 play is_some c.in-Ok-Some.ensures.one_channel;
      stops = tt;
      unread = tt;
      unwritten = λ is. cc;
      unsaid = c.in-Ok.ensures.unsaid;
      reads = c.in-Ok.ensures.reads;
      writes = c.in-Ok.ensures.writes;
      kept = c.in-Ok.ensures.kept;
      reading = c.in-Ok.ensures.reading;
      telling = c.in-Ok.ensures.telling;
      told = λ tells. not_so _ _ _ _ (λ is. cc) refl;
      stays = refl;
      listening = refl;
    }

pub returns-in-Ok-None : goal.returns-in-Ok-None
returns-in-Ok-None g c = record {
  means = tt;
  none = λ tells.
      let text = some_of (g.F.Files.held c.args.files.now c.args.name.now) (c.in-Ok.ensures.found tells) in (
        text.0,
        text.1,
        c.in-Ok.file,
        c.in-Ok.ensures.of_text tells text.0 text.1,
        subst (λ (o : Option Play). IfNone o (case_with c.args.line c.in-Ok.file.cases ≡ None)) c.in-Ok-None.field-0-is c.in-Ok-None.ensures.none,
      );
  ordered = tt;
  one_channel = tt;
  stops = tt;
  unread = tt;
  unwritten = λ is. cc;
  unsaid = c.in-Ok.ensures.unsaid;
  reads = c.in-Ok.ensures.reads;
  writes = c.in-Ok.ensures.writes;
  kept = c.in-Ok.ensures.kept;
  reading = c.in-Ok.ensures.reading;
  telling = c.in-Ok.ensures.telling;
  told = λ tells.
      so _ _ _ _ refl (by_text (source c.args.opened.now.app c.args.opened.now.sizes (g.F.Files.tells c.args.files.now) (g.F.Files.held c.args.files.now))
      c.args.name.now c.args.word.now
      (listener_seen g.L.Listener.quiet g.L.Listener.heard g.L.KnownListener.reads g.L.KnownListener.unread g.L.KnownListener.room c.args.listener.now)
      (g.L.Listener.heard c.tell_no_case.new.listener) c.in-Ok.file c.in-Ok.ensures.of_text (c.tell_no_case.ensures.told tells));
  stays = tt;
  listening = c.tell_no_case.ensures.listening;
}

pub returns : goal.returns
returns g c = record {
  means = tt;
  none = tt;
  ordered = tt;
  one_channel = tt;
  stops = λ tells. c.in-Ok.ensures.unsaid;
  unread = λ is. cc;
  unwritten = λ is. cc;
  unsaid = tt;
  reads = c.in-Ok.ensures.reads;
  writes = c.in-Ok.ensures.writes;
  kept = c.in-Ok.ensures.kept;
  reading = c.in-Ok.ensures.reading;
  telling = c.in-Ok.ensures.telling;
  told = λ tells. not_so _ _ _ _ (λ is. cc) refl;
  stays = tt;
  listening = refl;
}
