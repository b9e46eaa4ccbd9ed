use Rattle.std.proofs.Common.{◌≡◌, ◌∙◌, ap, inl, inr, refl}
use Rattle.ps_bench_frame.specs.Meant.{file_meant}
use Rattle.ps_bench_frame.specs.Opening.{source}
use Rattle.ps_bench_frame.specs.declared.ending.Status.TheVariants.{Done}
use Rattle.ps_bench_messages.proofs.Remarked.{first_of}
use Rattle.ps_outside.specs.Outside.{Rose}
use Rattle.ps_bench_trace.specs.Playing.{trace_held}
use Rattle.ps_bench_trace.proofs.Refused.{stops_weaker, word_refused}
use Rattle.ps_bench_trials.specs.Steps.{items_in}
use Rattle.ps_world.specs.Whole.{machines_in}
use Rattle.ps_bench_campaign.specs.Asking.{campaign_text, wanted_by}
use Rattle.ps_bench_campaign.specs.Leaving.{sides}
use Rattle.ps_bench_campaign.specs.Recorded.{RecordsHeld}
use Rattle.ps_bench_campaign.proofs.Coming.{moved}
use Rattle.ps_bench_campaign.proofs.Ending.{told_ended, told_in}
use Rattle.ps_bench_campaign.proofs.Keeping.{of_given, word_recorded}
use Rattle.ps_bench_campaign.proofs.Leaving.{no_memory, passed, written_behind}
use Rattle.ps_bench_campaign.proofs.campaigning.campaign_play.Goals as goal

pub campaign_text-requires : goal.campaign_text-requires
campaign_text-requires g c = record { accepted = c.requires.accepted; course = c.in-Ok.ensures.course }

pub returns-in-Ok-campaign_text : goal.returns-in-Ok-campaign_text
returns-in-Ok-campaign_text g c = record {
  answers =
      let net = c.args.opened.now.app in
      let sizes = c.args.opened.now.sizes in
      let app = c.args.asked.now.app.now in
      let word = c.args.asked.now.trace.now in
      let reading = g.F.Files.tells c.args.files.now in
      let held = g.F.Files.held c.args.files.now in
      let from = source net sizes reading held in
      let there = trace_held c.args.cases (held (file_meant word)) in
      let wanted = wanted_by c.args.asked.now in
      let r = c.in-Ok.recorded in
      let text = c.in-Ok-campaign_text.text in
      moved net sizes app wanted reading reading held held (g.O.Sink.tells c.args.out.now) _ (g.O.Sink.taken c.args.out.now) _
      (g.O.Sink.taken c.write_told.new.out) c.write_told.result refl refl c.in-Ok.ensures.leaves.stays.telling c.in-Ok.ensures.unsaid
      (told_ended from app wanted text c.as_slice-in-Ok-campaign_text.result.now _ _ (g.O.Sink.taken c.write_told.new.out) c.write_told.result
      c.as_slice-in-Ok-campaign_text.ensures c.write_told.ensures.all c.write_told.ensures.some
      (told_in from app wanted text net c.args.name.now r refl c.requires.named
      (λ tells. word_recorded from word c.requires.means.0 there r (c.requires.means.1 tells)
      (of_given (RecordsHeld net there) c.record_play.result r c.in-Ok.is (c.record_play.ensures.records tells)))
      (λ setup is. c.in-Ok-campaign_text.ensures setup is
      ∙ ap (λ name. campaign_text net (machines_in setup) (items_in r.course.steps.items) wanted name r.name) c.as_slice.ensures)));
  leaves =
      let trace = file_meant c.args.asked.now.trace.now in
      let reads = g.F.Files.faults c.args.files.now in
      let reads' = g.F.Files.faults c.record_play.new.files in
      written_behind (Rose (reads trace) (reads' trace)) reads reads' (g.O.Sink.tells c.args.out.now) (g.O.Sink.tells c.record_play.new.out)
      (g.O.Sink.tells c.write_told.new.out) (g.O.Sink.faults c.args.out.now) (g.O.Sink.faults c.record_play.new.out)
      (g.O.Sink.faults c.write_told.new.out) c.write_told.result c.in-Ok.ensures.leaves.stays c.write_told.ensures.leaves;
  done = first_of (λ status. status ≡ Done) _ c.write_told.result c.write_told.ensures.all;
}

pub returns : goal.returns
returns g c = record {
  answers = inr (inr (refl, λ tells. c.in-Ok.ensures.unsaid));
  leaves =
      let trace = file_meant c.args.asked.now.trace.now in
      let reads = g.F.Files.faults c.args.files.now in
      let reads' = g.F.Files.faults c.record_play.new.files in
      no_memory (Rose (reads trace) (reads' trace)) (sides reads (g.O.Sink.tells c.args.out.now) (g.O.Sink.faults c.args.out.now))
      (sides reads' (g.O.Sink.tells c.record_play.new.out) (g.O.Sink.faults c.record_play.new.out)) c.in-Ok.ensures.leaves.stays;
  done = tt;
}

pub returns-in-Err : goal.returns-in-Err
returns-in-Err g c = record {
  answers =
      let word = c.args.asked.now.trace.now in
      let held = g.F.Files.held c.args.files.now in
      let from = source c.args.opened.now.app c.args.opened.now.sizes (g.F.Files.tells c.args.files.now) held in
      inl (inr (stops_weaker _ _ c.in-Err.stop _ _ _
      (λ refusal why tells. word_refused from word c.requires.means.0 (trace_held c.args.cases (held (file_meant word))) refusal
      (c.requires.means.1 tells) (why tells)) c.in-Err.ensures.stops));
  leaves =
      let trace = file_meant c.args.asked.now.trace.now in
      let reads = g.F.Files.faults c.args.files.now in
      let reads' = g.F.Files.faults c.record_play.new.files in
      passed (Rose (reads trace) (reads' trace)) (sides reads (g.O.Sink.tells c.args.out.now) (g.O.Sink.faults c.args.out.now))
      (sides reads' (g.O.Sink.tells c.record_play.new.out) (g.O.Sink.faults c.record_play.new.out)) c.in-Err.stop c.in-Err.ensures.leaves;
  done = tt;
}
