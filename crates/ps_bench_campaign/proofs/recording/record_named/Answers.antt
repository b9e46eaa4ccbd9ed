use Rattle.std.proofs.Common.{◌≡◌, ◌∙◌, ◌++◌, ℕ, IsTrue, List, Ok, Err, sym, ap, subst}
use Rattle.ps_bench_frame.proofs.Stopped.{rose_since}
use Rattle.ps_bench_frame.specs.declared.ending.Input.TheVariants.{Trace}
use Rattle.ps_outside.specs.Outside.{Rose}
use Rattle.ps_report.specs.Short.{refusal_text}
use Rattle.ps_bench_trials.specs.Naming.{Names}
use Rattle.ps_trace.specs.Scans.{Scans}
use Rattle.ps_trace.specs.declared.trace.TraceStop.TheVariants as stops
use Rattle.ps_bench_campaign.proofs.Keeping.{of_both, of_given, records, said_refusal}
use Rattle.ps_bench_campaign.specs.Courses.{IsCourse}
use Rattle.ps_bench_campaign.specs.Leaving.{sides}
use Rattle.ps_bench_campaign.proofs.Leaving.{done, input_unread_is, input_unread_refused, memory_refused, no_memory, read_first, read_on, stopped, write_on}
use Rattle.ps_bench_campaign.proofs.recording.record_named.Goals as goal

pub returns-in-Err : goal.returns-in-Err
returns-in-Err g c = record {
  course = tt;
  records = λ tells. tt;
  stops =
      record {
        of_run = c.in-Err.ensures.of_run;
        refuses = λ refusal is.
            let why = c.open_trace.ensures.refuses refusal (c.in-Err.is ∙ ap Err is) in
            (λ tells. let held = why.0 tells in (held.0, held.1, ap (λ (s : Scans). s.end) held.2), why.1);
      };
  unsaid = tt;
  leaves =
      let name = c.args.name.now in
      let reads = g.F.Files.faults c.args.files.now in
      let reads' = g.F.Files.faults c.open_trace.new.files in
      stopped (Rose (reads name) (reads' name)) (sides reads (g.O.Sink.tells c.args.out.now) (g.O.Sink.faults c.args.out.now))
      (sides reads' (g.O.Sink.tells c.open_trace.new.out) (g.O.Sink.faults c.open_trace.new.out)) c.in-Err.stop
      (record { reads = c.in-Err.ensures.reads; telling = c.in-Err.ensures.telling; writes = c.in-Err.ensures.writes })
      c.in-Err.ensures.unread (λ at. c.open_trace.ensures.unwritten (c.in-Err.is ∙ ap Err at));
}

pub returns-in-Ok-name_of_file : goal.returns-in-Ok-name_of_file
returns-in-Ok-name_of_file g c =
    let course : c.read_course-read.result ≡ Ok (Ok c.in-Ok-Ok.course) = c.in-Ok-Ok.is ∙ ap Ok c.in-Ok-Ok.field-0-is in
    record {
      course = of_both (IsCourse c.args.app.now) c.read_course-read.result c.in-Ok-Ok.course course c.read_course-read.ensures.course;
      records =
          λ tells.
          let opens = c.in-Ok.ensures.opens tells in
          let there = subst IsTrue (sym c.in-Ok.ensures.reading) tells in
          let later = subst IsTrue (sym c.read_course-read.ensures.reading) there in
          let held = (λ i. c.in-Ok.ensures.kept i (c.in-Ok.ensures.opened.file i)) ∙ opens.1 in
          let name = c.args.name.now in
          records c.args.app.now (g.F.Files.held c.args.files.now name) opens.0 c.in-Ok-Ok.course c.in-Ok-name_of_file.name opens.1
          (sym opens.3 ∙ of_both _ c.read_course-read.result c.in-Ok-Ok.course course (c.read_course-read.ensures.items there opens.0 held opens.2))
          (subst (λ (h : List ℕ → _). Names (h name) c.in-Ok-name_of_file.name) (c.read_course-read.ensures.kept ∙ c.in-Ok.ensures.kept)
          (of_given (Names (g.F.Files.held c.read_course-read.new.files name)) c.name_of_file.result c.in-Ok-name_of_file.name c.in-Ok-name_of_file.is
          (c.name_of_file.ensures.names later)));
      stops = tt;
      unsaid = c.in-Ok.ensures.unsaid;
      leaves =
          let name = c.args.name.now in
          let reads = g.F.Files.faults c.args.files.now in
          let reads' = g.F.Files.faults c.open_trace.new.files in
          let reads'' = g.F.Files.faults c.read_course-read.new.files in
          let reads''' = g.F.Files.faults c.name_of_file.new.files in
          let tells = g.O.Sink.tells c.args.out.now in
          let writes = g.O.Sink.faults c.args.out.now in
          let read = read_first reads reads' reads'' tells _ writes _ c.in-Ok.ensures.reads c.read_course-read.ensures.reads c.in-Ok.ensures.telling
          c.in-Ok.ensures.writes in
          done (Rose (reads name) (reads''' name)) (sides reads tells writes) (sides reads''' _ _) _
          (read_on reads reads'' reads''' tells _ writes _ read c.name_of_file.ensures.reads);
    }

pub returns-in-Err-Fault : goal.returns-in-Err-Fault
returns-in-Err-Fault g c = record {
  course = tt;
  records = λ tells. tt;
  stops = record { of_run = tt; refuses = λ refusal is. input_unread_refused refusal is };
  unsaid = tt;
  leaves =
      let name = c.args.name.now in
      let reads = g.F.Files.faults c.args.files.now in
      let reads' = g.F.Files.faults c.open_trace.new.files in
      let reads'' = g.F.Files.faults c.read_course-read.new.files in
      let reads''' = g.F.Files.faults c.name_of_file.new.files in
      let tells = g.O.Sink.tells c.args.out.now in
      let writes = g.O.Sink.faults c.args.out.now in
      let read = read_first reads reads' reads'' tells _ writes _ c.in-Ok.ensures.reads c.read_course-read.ensures.reads c.in-Ok.ensures.telling
      c.in-Ok.ensures.writes in
      stopped (Rose (reads name) (reads''' name)) (sides reads tells writes)
      (sides reads''' (g.O.Sink.tells c.open_trace.new.out) (g.O.Sink.faults c.open_trace.new.out)) _
      (read_on reads reads'' reads''' tells _ writes _ read c.name_of_file.ensures.reads)
      (λ is. rose_since (reads name) (reads'' name) (reads''' name) (read.reads name)
      (c.name_of_file.ensures.fault (c.in-Err-Fault.is ∙ ap Err c.in-Err-Fault.field-0-is)))
      (λ is. input_unread_is Trace is);
}

pub returns-in-Ok-Ok : goal.returns-in-Ok-Ok
returns-in-Ok-Ok g c = record {
  course = tt;
  records = λ tells. tt;
  stops = record { of_run = tt; refuses = λ refusal is. memory_refused refusal is };
  unsaid = tt;
  leaves =
      let name = c.args.name.now in
      let reads = g.F.Files.faults c.args.files.now in
      let reads' = g.F.Files.faults c.open_trace.new.files in
      let reads'' = g.F.Files.faults c.read_course-read.new.files in
      let reads''' = g.F.Files.faults c.name_of_file.new.files in
      let tells = g.O.Sink.tells c.args.out.now in
      let writes = g.O.Sink.faults c.args.out.now in
      let read = read_first reads reads' reads'' tells _ writes _ c.in-Ok.ensures.reads c.read_course-read.ensures.reads c.in-Ok.ensures.telling
      c.in-Ok.ensures.writes in
      no_memory (Rose (reads name) (reads''' name)) (sides reads tells writes)
      (sides reads''' (g.O.Sink.tells c.open_trace.new.out) (g.O.Sink.faults c.open_trace.new.out))
      (read_on reads reads'' reads''' tells _ writes _ read c.name_of_file.ensures.reads);
}

pub returns-in-Refused : goal.returns-in-Refused
returns-in-Refused g c = record {
  course = tt;
  records = λ tells. tt;
  stops =
      record {
        of_run = c.refuse_input.ensures.of_run;
        refuses = λ refusal is.
            let said = said_refusal c.in-Refused.refusal refusal c.refuse_input.result (g.O.Sink.tells c.open_trace.new.out)
            (g.O.Sink.taken c.open_trace.new.out) (g.O.Sink.taken c.refuse_input.new.out) c.refuse_input.ensures.says is in
            let stopped = c.in-Ok-Err.is ∙ ap Ok (c.in-Ok-Err.field-0-is ∙ ap Err (c.in-Refused.is ∙ ap stops.Refused said.0)) in (
              λ tells.
                  let opens = c.in-Ok.ensures.opens tells in
                  let there = subst IsTrue (sym c.in-Ok.ensures.reading) tells in
                  let held = (λ i. c.in-Ok.ensures.kept i (c.in-Ok.ensures.opened.file i)) ∙ opens.1 in (
                    opens.0,
                    opens.1,
                    ap (λ (s : Scans). s.end) (sym opens.3) ∙ c.read_course-read.ensures.refuses there opens.0 held
                        opens.2 refusal stopped,
                  ),
              λ telling. said.1 (subst IsTrue (sym c.in-Ok.ensures.telling) telling)
                  ∙ ap (λ (taken : List ℕ). taken ++ refusal_text refusal) c.in-Ok.ensures.unsaid,
            );
      };
  unsaid = tt;
  leaves =
      let name = c.args.name.now in
      let reads = g.F.Files.faults c.args.files.now in
      let reads' = g.F.Files.faults c.open_trace.new.files in
      let reads'' = g.F.Files.faults c.read_course-read.new.files in
      let tells = g.O.Sink.tells c.args.out.now in
      let writes = g.O.Sink.faults c.args.out.now in
      let out = g.O.Sink.faults c.open_trace.new.out in
      let out' = g.O.Sink.faults c.refuse_input.new.out in
      let read = read_first reads reads' reads'' tells _ writes _ c.in-Ok.ensures.reads c.read_course-read.ensures.reads c.in-Ok.ensures.telling
      c.in-Ok.ensures.writes in
      stopped (Rose (reads name) (reads'' name)) (sides reads tells writes) (sides reads'' (g.O.Sink.tells c.refuse_input.new.out) out') c.refuse_input.result
      (write_on reads reads'' tells _ _ writes _ _ read c.refuse_input.ensures.telling c.refuse_input.ensures.writes)
      (λ is. absurd (c.refuse_input.ensures.read is))
      (λ at. rose_since writes out out' c.in-Ok.ensures.writes (c.refuse_input.ensures.unwritten at));
}

pub returns-in-Ok-Err : goal.returns-in-Ok-Err
returns-in-Ok-Err g c = record {
  course = tt;
  records = λ tells. tt;
  stops = record { of_run = tt; refuses = λ refusal is. input_unread_refused refusal is };
  unsaid = tt;
  leaves =
      let name = c.args.name.now in
      let reads = g.F.Files.faults c.args.files.now in
      let reads' = g.F.Files.faults c.open_trace.new.files in
      let reads'' = g.F.Files.faults c.read_course-read.new.files in
      let tells = g.O.Sink.tells c.args.out.now in
      let writes = g.O.Sink.faults c.args.out.now in
      let read = read_first reads reads' reads'' tells _ writes _ c.in-Ok.ensures.reads c.read_course-read.ensures.reads c.in-Ok.ensures.telling
      c.in-Ok.ensures.writes in
      stopped (Rose (reads name) (reads'' name)) (sides reads tells writes)
      (sides reads'' (g.O.Sink.tells c.open_trace.new.out) (g.O.Sink.faults c.open_trace.new.out)) _ read
      (λ is. rose_since (reads name) (reads' name) (reads'' name) (c.in-Ok.ensures.reads name)
      (subst (λ (file : List ℕ). Rose (reads' file) (reads'' file)) c.in-Ok.ensures.opened.file
      (c.read_course-read.ensures.fault (c.in-Ok-Err.is ∙ ap Ok (c.in-Ok-Err.field-0-is ∙ ap Err c.in-Fault.is)))))
      (λ is. input_unread_is Trace is);
}

pub returns : goal.returns
returns g c = record {
  course = tt;
  records = λ tells. tt;
  stops = record { of_run = tt; refuses = λ refusal is. memory_refused refusal is };
  unsaid = tt;
  leaves =
      let name = c.args.name.now in
      let reads = g.F.Files.faults c.args.files.now in
      let reads' = g.F.Files.faults c.open_trace.new.files in
      let reads'' = g.F.Files.faults c.read_course-read.new.files in
      let tells = g.O.Sink.tells c.args.out.now in
      let writes = g.O.Sink.faults c.args.out.now in
      let read = read_first reads reads' reads'' tells _ writes _ c.in-Ok.ensures.reads c.read_course-read.ensures.reads c.in-Ok.ensures.telling
      c.in-Ok.ensures.writes in
      no_memory (Rose (reads name) (reads'' name)) (sides reads tells writes)
      (sides reads'' (g.O.Sink.tells c.open_trace.new.out) (g.O.Sink.faults c.open_trace.new.out)) read;
}

pub read_course-read-requires : goal.read_course-read-requires
read_course-read-requires g c = record {
  accepted = c.requires;
  inputs = c.in-Ok.ensures.opened.inputs;
  fresh = c.in-Ok.ensures.opened.fresh;
}
