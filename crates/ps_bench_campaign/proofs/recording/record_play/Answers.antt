use Rattle.std.proofs.Common.{◌≡◌, ℕ, IsTrue, List, Option, refl, sym, subst}
use Rattle.std.proofs.lemmas.Result.{IfErr-weaker}
use Rattle.std.specs.Prelude.{IfErr, IfOk}
use Rattle.ps_bench_frame.specs.Meant.{file_meant}
use Rattle.ps_outside.specs.Outside.{Rose}
use Rattle.ps_bench_trace.specs.Playing.{trace_held}
use Rattle.ps_bench_trace.specs.Refusing.{RefusesHeld, StopsAtTrace}
use Rattle.ps_bench_trace.proofs.Refused.{stops_weaker}
use Rattle.ps_bench_campaign.specs.Leaving.{Leaves, sides}
use Rattle.ps_bench_campaign.specs.Recorded.{RecordsHeld}
use Rattle.ps_bench_campaign.proofs.Keeping.{none_rose}
use Rattle.ps_bench_campaign.proofs.Leaving.{no_more}
use Rattle.ps_bench_campaign.proofs.recording.record_play.Goals as goal

pub returns-in-Some : goal.returns-in-Some
returns-in-Some g c = record {
  course = c.record_named.ensures.course;
  records =
      λ tells.
      subst (λ (o : Option (List ℕ)). IfOk c.record_named.result
      (RecordsHeld c.args.app.now (trace_held o (g.F.Files.held c.args.files.now (file_meant c.args.word.now)))))
      (sym c.in-Some.is) (c.record_named.ensures.records refl);
  stops =
      IfErr-weaker c.record_named.result _ _
      (λ stop stops. stops_weaker _ _ stop _ _ _
      (λ refusal why tells.
      subst (λ (o : Option (List ℕ)). RefusesHeld c.args.app.now
      (trace_held o (g.F.Files.held c.args.files.now (file_meant c.args.word.now))) refusal)
      (sym c.in-Some.is) (why refl)) stops)
      c.record_named.ensures.stops;
  unsaid = c.record_named.ensures.unsaid;
  leaves =
      let leaves = c.record_named.ensures.leaves in
      record {
        stays = record { reads = λ other. no_more (g.F.Files.faults c.args.files.now other); telling = leaves.stays.telling; writes = leaves.stays.writes };
        unread = IfErr-weaker c.record_named.result _ _ (λ stop unread is. none_rose {P = Rose (g.F.Files.faults c.args.files.now (file_meant c.args.word.now)) (g.F.Files.faults c.args.files.now (file_meant c.args.word.now))} (unread is)) leaves.unread;
        unwritten = leaves.unwritten;
      };
}

pub returns-in-None : goal.returns-in-None
returns-in-None g c = record {
  course = c.record_file.ensures.course;
  records =
      λ tells.
      let there : g.F.Files.held c.args.files.now c.word_of-word.result.file.now
      ≡ trace_held c.args.cases (g.F.Files.held c.args.files.now (file_meant c.args.word.now)) =
      λ i. trace_held (sym c.in-None.is i) (g.F.Files.held c.args.files.now (c.word_of-word.ensures.file i)) in
      subst (λ (h : Option (List ℕ)). IfOk c.record_file.result (RecordsHeld c.args.app.now h)) there
      (c.record_file.ensures.records tells);
  stops =
      let there : g.F.Files.held c.args.files.now c.word_of-word.result.file.now
      ≡ trace_held c.args.cases (g.F.Files.held c.args.files.now (file_meant c.args.word.now)) =
      λ i. trace_held (sym c.in-None.is i) (g.F.Files.held c.args.files.now (c.word_of-word.ensures.file i)) in
      subst (λ (h : Option (List ℕ)). IfErr c.record_file.result (λ stop. StopsAtTrace
      (λ refusal. IsTrue (g.F.Files.tells c.args.files.now) → RefusesHeld c.args.app.now h refusal) stop
      (g.O.Sink.tells c.args.out.now) (g.O.Sink.taken c.args.out.now)
      (g.O.Sink.taken c.record_file.new.out))) there
      c.record_file.ensures.stops;
  unsaid = c.record_file.ensures.unsaid;
  leaves =
      subst (λ (name : List ℕ). Leaves (Rose (g.F.Files.faults c.args.files.now name) (g.F.Files.faults c.record_file.new.files name))
      (sides (g.F.Files.faults c.args.files.now) (g.O.Sink.tells c.args.out.now) (g.O.Sink.faults c.args.out.now))
      (sides (g.F.Files.faults c.record_file.new.files) (g.O.Sink.tells c.record_file.new.out)
      (g.O.Sink.faults c.record_file.new.out)) c.record_file.result)
      c.word_of-word.ensures.file c.record_file.ensures.leaves;
}
