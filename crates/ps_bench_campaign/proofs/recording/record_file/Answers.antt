use Rattle.std.proofs.Common.{◌≡◌, ◌∙◌, ℕ, IsTrue, List, Option, Some, Err, ap, refl, sym, subst}
use Rattle.std.proofs.lemmas.Result.{IfErr-weaker}
use Rattle.std.specs.Prelude.{IfOk}
use Rattle.ps_bench_frame.proofs.Stopped.{rose_since}
use Rattle.ps_bench_frame.specs.declared.ending.Input.TheVariants.{Trace}
use Rattle.ps_outside.specs.Outside.{Rose}
use Rattle.ps_bench_trace.proofs.Refused.{of_some, stops_weaker}
use Rattle.ps_bench_trace.specs.Refusing.{RefusesHeld}
use Rattle.ps_bench_campaign.specs.Leaving.{Stays, sides}
use Rattle.ps_bench_campaign.specs.Recorded.{RecordsHeld}
use Rattle.ps_bench_campaign.proofs.Keeping.{none_rose}
use Rattle.ps_bench_campaign.proofs.Leaving.{behind, input_unread_is, input_unread_refused, memory_refused, no_memory, no_more, stopped}
use Rattle.ps_bench_campaign.proofs.recording.record_file.Goals as goal

pub returns-in-Ok-Some : goal.returns-in-Ok-Some
returns-in-Ok-Some g c =
    let name = c.args.name.now in
    let held = g.F.Files.held c.args.files.now name in
    let text = c.in-Ok-Some.text in
    let there : IsTrue (g.F.Files.tells c.args.files.now) → held ≡ Some text =
    λ tells. of_some (λ (t : List ℕ). held ≡ Some t) c.in-Ok-Some.field-0 text c.in-Ok-Some.field-0-is (c.in-Ok-Some.ensures.text tells) in
    record {
      course = c.record_named.ensures.course;
      records = λ tells.
          subst (λ (h : Option (List ℕ)). IfOk c.record_named.result (RecordsHeld c.args.app.now h)) (sym (there tells))
          (c.record_named.ensures.records refl);
      stops =
          IfErr-weaker c.record_named.result _ _
          (λ stop stops. stops_weaker _ _ stop _ _ _
          (λ refusal why tells. subst (λ (h : Option (List ℕ)). RefusesHeld c.args.app.now h refusal) (sym (there tells)) (why refl)) stops)
          c.record_named.ensures.stops;
      unsaid = c.record_named.ensures.unsaid;
      leaves =
          let leaves = c.record_named.ensures.leaves in
          let rises = Rose (g.F.Files.faults c.args.files.now name) (g.F.Files.faults c.of_file.new.files name) in
          record {
            stays = record { reads = c.in-Ok-Some.ensures.reads; telling = leaves.stays.telling; writes = leaves.stays.writes };
            unread = IfErr-weaker c.record_named.result _ _ (λ stop unread is. none_rose {P = rises} (unread is)) leaves.unread;
            unwritten = leaves.unwritten;
          };
    }

pub returns-in-Ok-None : goal.returns-in-Ok-None
returns-in-Ok-None g c =
    let name = c.args.name.now in
    let is = c.in-Ok-None.ensures in
    let result = c.record_named-in-Ok-None.result in
    let recorded = c.record_named-in-Ok-None.ensures in
    let reads = g.F.Files.faults c.args.files.now in
    let mid = g.F.Files.faults c.of_file.new.files in
    let reads' = g.F.Files.faults c.record_named-in-Ok-None.new.files in
    let tells = g.O.Sink.tells c.args.out.now in
    let writes = g.O.Sink.faults c.args.out.now in
    let before = sides reads tells writes in
    let middle = sides mid tells writes in
    let after = sides reads' (g.O.Sink.tells c.record_named-in-Ok-None.new.out) (g.O.Sink.faults c.record_named-in-Ok-None.new.out) in
    let stays : Stays before middle = record { reads = is.reads; telling = refl; writes = no_more writes } in
    record {
      course = recorded.course;
      records = λ told.
          subst (λ (h : List ℕ → Option (List ℕ)). IfOk result (RecordsHeld c.args.app.now (h name))) is.kept
          (recorded.records (subst IsTrue (sym is.reading) told));
      stops =
          IfErr-weaker result _ _
          (λ stop stops. stops_weaker _ _ stop _ _ _
          (λ refusal why told. subst (λ (h : List ℕ → Option (List ℕ)). RefusesHeld c.args.app.now (h name) refusal) is.kept
          (why (subst IsTrue (sym is.reading) told))) stops)
          recorded.stops;
      unsaid = recorded.unsaid;
      leaves = behind before middle after result (Rose (mid name) (reads' name)) (Rose (reads name) (reads' name)) stays recorded.leaves
          (rose_since (reads name) (mid name) (reads' name) (is.reads name));
    }

pub returns-in-Err-Fault : goal.returns-in-Err-Fault
returns-in-Err-Fault g c = record {
  course = tt;
  records = λ told. tt;
  stops = record { of_run = tt; refuses = λ refusal is. input_unread_refused refusal is };
  unsaid = tt;
  leaves =
      let name = c.args.name.now in
      let reads = g.F.Files.faults c.args.files.now in
      let reads' = g.F.Files.faults c.of_file.new.files in
      let tells = g.O.Sink.tells c.args.out.now in
      let writes = g.O.Sink.faults c.args.out.now in
      stopped (Rose (reads name) (reads' name)) (sides reads tells writes) (sides reads' tells writes) _
      (record { reads = c.of_file.ensures.reads; telling = refl; writes = no_more writes })
      (λ is. c.of_file.ensures.fault (c.in-Err-Fault.is ∙ ap Err c.in-Err-Fault.field-0-is))
      (λ is. input_unread_is Trace is);
}

pub returns-in-Err-Memory : goal.returns-in-Err-Memory
returns-in-Err-Memory g c = record {
  course = tt;
  records = λ told. tt;
  stops = record { of_run = tt; refuses = λ refusal is. memory_refused refusal is };
  unsaid = tt;
  leaves =
      let name = c.args.name.now in
      let reads = g.F.Files.faults c.args.files.now in
      let reads' = g.F.Files.faults c.of_file.new.files in
      let tells = g.O.Sink.tells c.args.out.now in
      let writes = g.O.Sink.faults c.args.out.now in
      no_memory (Rose (reads name) (reads' name)) (sides reads tells writes) (sides reads' tells writes)
      (record { reads = c.of_file.ensures.reads; telling = refl; writes = no_more writes });
}
