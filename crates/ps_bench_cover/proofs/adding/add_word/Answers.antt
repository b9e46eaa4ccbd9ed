use Rattle.std.proofs.Common.{Option, Ok, Err, inl, subst}
use Rattle.ps_bench_frame.proofs.Leaving.{quiet_both, stops_behind, texts_stay}
use Rattle.ps_bench_frame.specs.Opening.{source_of_call}
use Rattle.ps_bench_frame.specs.Seen.{Texts, texts_of}
use Rattle.ps_bench_trace.specs.Coming.{ComesToPlay}
use Rattle.ps_bench_trace.specs.declared.playing.Play.{Play}
use Rattle.ps_bench_cover.specs.Coming.{ComesOfTrace}
use Rattle.ps_bench_cover.proofs.Held.{word_done, word_stops}
use Rattle.ps_bench_cover.proofs.adding.add_word.Goals as goal

pub returns-in-Ok : goal.returns-in-Ok
returns-in-Ok g c =
    let net = c.args.opened.now.app in
    let sizes = c.args.opened.now.sizes in
    let word = c.args.word.now in
    let play = c.in-Ok-Some.play in
    let first = g.C.Call.seen c.args.call.now in
    let mid = g.C.Call.seen c.read_play.new.call in
    let opened = subst (λ (o : Option Play). ComesToPlay (source_of_call net sizes first) word (Ok o)) c.in-Ok-Some.field-0-is c.in-Ok-Some.ensures.comes in
    record {
      comes = word_done net sizes (texts_of first) word play c.args.total.now c.add_play.new.total opened.0
          (subst (λ (t : Texts). ComesOfTrace net play.cases word t c.args.total.now c.add_play.new.total (Ok tt)) (texts_stay first mid c.in-Ok-Some.ensures.reads.quiet) c.in-Ok.ensures.comes);
      reads = record { quiet = quiet_both first mid _ c.in-Ok-Some.ensures.reads.quiet c.in-Ok.ensures.reads.quiet; stops = tt };
    }

pub returns-in-Ok-Some : goal.returns-in-Ok-Some
returns-in-Ok-Some g c =
    let net = c.args.opened.now.app in
    let sizes = c.args.opened.now.sizes in
    let word = c.args.word.now in
    let play = c.in-Ok-Some.play in
    let first = g.C.Call.seen c.args.call.now in
    let mid = g.C.Call.seen c.read_play.new.call in
    let last = g.C.Call.seen c.add_play.new.call in
    let stop = c.in-Err-add_play.stop in
    let opened = subst (λ (o : Option Play). ComesToPlay (source_of_call net sizes first) word (Ok o)) c.in-Ok-Some.field-0-is c.in-Ok-Some.ensures.comes in
    record {
      comes = word_stops net sizes (texts_of first) word play c.args.total.now c.add_play.new.total opened.0 stop
          (subst (λ (t : Texts). ComesOfTrace net play.cases word t c.args.total.now c.add_play.new.total (Err stop)) (texts_stay first mid c.in-Ok-Some.ensures.reads.quiet)
          c.in-Err-add_play.ensures.comes);
      reads = record {
        quiet = quiet_both first mid last c.in-Ok-Some.ensures.reads.quiet c.in-Err-add_play.ensures.reads.quiet;
        stops = stops_behind _ first mid last stop c.in-Ok-Some.ensures.reads.quiet c.in-Err-add_play.ensures.reads.stops;
      };
    }

pub returns-in-Ok-None : goal.returns-in-Ok-None
returns-in-Ok-None g c =
    let from = source_of_call c.args.opened.now.app c.args.opened.now.sizes (g.C.Call.seen c.args.call.now) in
    record {
      comes = subst (λ (o : Option Play). ComesToPlay from c.args.word.now (Ok o)) c.in-Ok-None.field-0-is c.in-Ok-None.ensures.comes;
      reads = record { quiet = c.in-Ok-None.ensures.reads.quiet; stops = tt };
    }

pub returns : goal.returns
returns g c = record {
  comes = inl c.in-Err.ensures.comes;
  reads = record { quiet = c.in-Err.ensures.reads.quiet; stops = c.in-Err.ensures.reads.stops };
}
