use Rattle.std.proofs.Common.{◌≡◌, ◌∙◌, ◌≤◌, ◌++◌, ℕ, Bool, List, IsTrue, Some, Result, Ok, Err, length, refl, sym, ap, subst, arith}
use Rattle.std.proofs.lemmas.List.{length-replicate}
use Rattle.ps_bench_campaign.specs.Courses.{IsCourse, latest_in, meant_in}
use Rattle.ps_bench_trials.specs.Steps.{items_in}
use Rattle.ps_bench_campaign.specs.declared.recorder.Course.{Course}
use Rattle.ps_bench_trials.specs.declared.step.Step.{Step}
use Rattle.ps_model.specs.Meaning.Item.{scan as scan_item, restart as restart_item}
use Rattle.ps_model.specs.declared.report.Scan.{Scan}
use Rattle.ps_outside.specs.Outside.{Rose}
use Rattle.ps_trace.specs.Reading.{Comes, Fills, GoesOn, file_of, items_left}
use Rattle.ps_trace.specs.Scans.{Scans}
use Rattle.ps_trace.specs.Scans.End.{whole, refused}
use Rattle.ps_trace.specs.declared.trace.Next.{Next}
use Rattle.ps_trace.specs.declared.trace.TraceStop.{TraceStop}
use Rattle.ps_trace.specs.declared.trace.TraceStop.TheVariants.{Fault, Refused}
use Rattle.ps_base.specs.declared.failing.Memory.{Memory}
use Rattle.ps_bench_campaign.proofs.Failing.{no_value, unsaid}
use Rattle.ps_bench_campaign.proofs.Leading.{leads_all, leads_end, leads_more}
use Rattle.ps_bench_campaign.proofs.Recorded.{is_course}
use Rattle.ps_bench_campaign.proofs.reading.read_course.Goals as goal

-- ---- Why a result is what it is, as facts of their own: a tactic in a function reads all that is known there.

-- a course that is whole was not cut short
whole_course : {P : Type 0} (r : Result (Result Course TraceStop) Memory) (course : Course) (stop : TraceStop) → r ≡ Ok (Ok course) → r ≡ Ok (Err stop) → P
whole_course r course stop one two = cc

-- what is cut short is cut short by what stopped it
stopped_so : (r : Result (Result Course TraceStop) Memory) (stop other : TraceStop) → r ≡ Ok (Err stop) → r ≡ Ok (Err other) → stop ≡ other
stopped_so r stop other one two = cc

no_more : (n : ℕ) → n ≤ n
no_more n = omega arith

pub items-preserved-in-Continue-branch-3 : goal.items-preserved-in-Continue-branch-3
items-preserved-in-Continue-branch-3 g c =
    let inv = c.items.invariant in
    let took = c.in_ok-take_scan-in-Ok-Scan.ensures in
    let fills = subst (λ (n : Next). Fills n c.items.trace c.next_scan.new.self c.in_ok-scan.scan c.next_scan.new.into) c.in-Ok-Scan.field-0-is c.in-Ok-Scan.ensures.fills in
    let on = subst (λ (n : Next). GoesOn n c.items.trace c.next_scan.new.self) c.in-Ok-Scan.field-0-is c.in-Ok-Scan.ensures.goes_on in
    record {
      inputs = c.in-Ok-Scan.ensures.inputs ∙ inv.inputs;
      name = c.in-Ok-Scan.ensures.name ∙ inv.name;
      recorded = took.recorded;
      due = omega (arith, took.latest, fills.2);
      room = omega (arith, took.count, inv.room, on.0);
      reads = λ ft text is reading.
          let held = g.F.Files.held in
          let here : held c.items.files (file_of c.items.trace) ≡ Some text = ap (λ (h : List ℕ → _). h (file_of c.items.trace)) inv.kept ∙ ap (held c.args.files.now) inv.name ∙ is in
          let ft' : IsTrue (g.F.Files.tells c.items.files) = subst (λ (b : Bool). IsTrue b) (sym inv.telling) ft in
          c.in-Ok-Scan.ensures.reads ft' text here (inv.reads ft text is reading);
      leads = λ ft text is reading.
          let held = g.F.Files.held in
          let here : held c.items.files (file_of c.items.trace) ≡ Some text = ap (λ (h : List ℕ → _). h (file_of c.items.trace)) inv.kept ∙ ap (held c.args.files.now) inv.name ∙ is in
          let ft' : IsTrue (g.F.Files.tells c.items.files) = subst (λ (b : Bool). IsTrue b) (sym inv.telling) ft in
          let comes = subst (λ (n : Next). Comes (items_left c.items.trace text) n c.next_scan.new.into (items_left c.next_scan.new.self text)) c.in-Ok-Scan.field-0-is
          (c.in-Ok-Scan.ensures.comes ft' text here (inv.reads ft text is reading)) in
          leads_more (items_left c.args.trace.now text) (items_left c.items.trace text) (items_left c.next_scan.new.self text)
          (items_in c.items.recorder.course.steps.items) (items_in c.take_scan.new.self.course.steps.items)
          (scan_item c.next_scan.new.into.now c.next_scan.new.into.ins) (inv.leads ft text is reading) comes took.items;
      all_read = λ name. c.in-Ok-Scan.ensures.exact (λ is. cc) name ∙ inv.all_read name;
      kept = c.in-Ok-Scan.ensures.kept ∙ inv.kept;
      telling = c.in-Ok-Scan.ensures.telling ∙ inv.telling;
    }

pub items-preserved : goal.items-preserved
items-preserved g c =
    let inv = c.items.invariant in
    let took = c.in_ok-take_restart-in-Ok-Restart.ensures in
    let fills = subst (λ (n : Next). Fills n c.items.trace c.next_scan.new.self c.in_ok-scan.scan c.next_scan.new.into) c.in-Ok-Restart.field-0-is c.in-Ok-Restart.ensures.fills in
    let on = subst (λ (n : Next). GoesOn n c.items.trace c.next_scan.new.self) c.in-Ok-Restart.field-0-is c.in-Ok-Restart.ensures.goes_on in
    record {
      inputs = c.in-Ok-Restart.ensures.inputs ∙ inv.inputs;
      name = c.in-Ok-Restart.ensures.name ∙ inv.name;
      recorded = took.recorded;
      due = omega (arith, took.latest, fills.1, inv.due);
      room = omega (arith, took.count, inv.room, on.0);
      reads = λ ft text is reading.
          let held = g.F.Files.held in
          let here : held c.items.files (file_of c.items.trace) ≡ Some text = ap (λ (h : List ℕ → _). h (file_of c.items.trace)) inv.kept ∙ ap (held c.args.files.now) inv.name ∙ is in
          let ft' : IsTrue (g.F.Files.tells c.items.files) = subst (λ (b : Bool). IsTrue b) (sym inv.telling) ft in
          c.in-Ok-Restart.ensures.reads ft' text here (inv.reads ft text is reading);
      leads = λ ft text is reading.
          let held = g.F.Files.held in
          let here : held c.items.files (file_of c.items.trace) ≡ Some text = ap (λ (h : List ℕ → _). h (file_of c.items.trace)) inv.kept ∙ ap (held c.args.files.now) inv.name ∙ is in
          let ft' : IsTrue (g.F.Files.tells c.items.files) = subst (λ (b : Bool). IsTrue b) (sym inv.telling) ft in
          let comes = subst (λ (n : Next). Comes (items_left c.items.trace text) n c.next_scan.new.into (items_left c.next_scan.new.self text)) c.in-Ok-Restart.field-0-is
          (c.in-Ok-Restart.ensures.comes ft' text here (inv.reads ft text is reading)) in
          leads_more (items_left c.args.trace.now text) (items_left c.items.trace text) (items_left c.next_scan.new.self text)
          (items_in c.items.recorder.course.steps.items) (items_in c.take_restart.new.self.course.steps.items)
          restart_item (inv.leads ft text is reading) comes took.items;
      all_read = λ name. c.in-Ok-Restart.ensures.exact (λ is. cc) name ∙ inv.all_read name;
      kept = c.in-Ok-Restart.ensures.kept ∙ inv.kept;
      telling = c.in-Ok-Restart.ensures.telling ∙ inv.telling;
    }

-- ---- What it returns.

pub returns-in-Ok-End : goal.returns-in-Ok-End
returns-in-Ok-End g c =
    let inv = c.items.invariant in
    record {
      course = subst (IsCourse c.args.app.now) (sym c.finish.ensures)
          (is_course c.args.app.now c.items.recorder.world c.items.recorder.course inv.recorded);
      items = λ ft text is reading.
          let here : g.F.Files.held c.items.files (file_of c.items.trace) ≡ Some text =
          ap (λ (h : List ℕ → _). h (file_of c.items.trace)) inv.kept ∙ ap (g.F.Files.held c.args.files.now) inv.name ∙ is in
          let ft' : IsTrue (g.F.Files.tells c.items.files) = subst (λ (b : Bool). IsTrue b) (sym inv.telling) ft in
          let comes = subst (λ (n : Next). Comes (items_left c.items.trace text) n c.next_scan.new.into (items_left c.next_scan.new.self text)) c.in-Ok-End.field-0-is
          (c.in-Ok-End.ensures.comes ft' text here (inv.reads ft text is reading)) in
          leads_all (items_left c.args.trace.now text) (items_left c.items.trace text) (items_in c.items.recorder.course.steps.items) (inv.leads ft text is reading) comes.0
          ∙ ap (λ (course : Course). record { items = items_in course.steps.items; end = whole }) (sym c.finish.ensures);
      refuses = λ ft text is reading refusal e. whole_course _ c.finish.result (Refused refusal) refl e;
      fault = λ e. whole_course _ c.finish.result Fault refl e;
      reads = λ name.
          subst (λ (n : ℕ). n ≤ g.F.Files.faults c.next_scan.new.files name) (inv.all_read name) (c.in-Ok-End.ensures.counts name);
      kept = c.in-Ok-End.ensures.kept ∙ inv.kept;
      reading = c.in-Ok-End.ensures.telling ∙ inv.telling;
    }

pub returns-in-Err : goal.returns-in-Err
returns-in-Err g c =
    let inv = c.items.invariant in
    record {
      course = tt;
      items = λ ft text is reading. tt;
      refuses = λ ft text is reading refusal e.
          let here : g.F.Files.held c.items.files (file_of c.items.trace) ≡ Some text =
          ap (λ (h : List ℕ → _). h (file_of c.items.trace)) inv.kept ∙ ap (g.F.Files.held c.args.files.now) inv.name ∙ is in
          let ft' : IsTrue (g.F.Files.tells c.items.files) = subst (λ (b : Bool). IsTrue b) (sym inv.telling) ft in
          leads_end (items_left c.args.trace.now text) (items_left c.items.trace text) (items_in c.items.recorder.course.steps.items) (refused refusal)
          (inv.leads ft text is reading)
          (ap (λ (s : Scans). s.end) (c.next_scan.ensures.refuses ft' text here (inv.reads ft text is reading) refusal
          (c.in-Err.is ∙ ap Err (stopped_so _ c.in-Err.stop (Refused refusal) refl e))));
      fault = λ e.
          let faults = g.F.Files.faults in
          let name = file_of c.args.trace.now in
          let rose = c.next_scan.ensures.fault (c.in-Err.is ∙ ap Err (stopped_so _ c.in-Err.stop Fault refl e)) in
          subst (λ (n : ℕ). Rose n (faults c.next_scan.new.files name)) (inv.all_read name)
          (subst (λ (file : List ℕ). Rose (faults c.items.files file) (faults c.next_scan.new.files file)) inv.name rose);
      reads = λ name.
          subst (λ (n : ℕ). n ≤ g.F.Files.faults c.next_scan.new.files name) (inv.all_read name) (c.next_scan.ensures.counts name);
      kept = c.next_scan.ensures.kept ∙ inv.kept;
      reading = c.next_scan.ensures.telling ∙ inv.telling;
    }

-- ---- What the calls in the loop need.

pub items-init : goal.items-init
items-init g c =
    let r = c.in_ok-recorder.recorder in
    let none = c.in_ok-recorder.ensures.none in
    let latest : latest_in 0 r.course.steps.items ≡ 0 = ap (latest_in 0) none in
    let many : r.course.scans ≡ 0 = c.in_ok-recorder.ensures.recorded.count ∙ ap (λ (steps : List Step). length (meant_in steps)) none in
    record {
      inputs = c.requires.inputs;
      name = refl;
      recorded = c.in_ok-recorder.ensures.recorded;
      due = omega (arith, latest);
      room = omega (arith, many);
      reads = λ ft text is reading. reading;
      leads = λ ft text is reading. sym (ap (λ (steps : List Step). record {
        items = items_in steps ++ (items_left c.args.trace.now text).items;
        end = (items_left c.args.trace.now text).end;
      }) none);
      all_read = λ name. refl;
      kept = refl;
      telling = refl;
    }

pub next_scan-requires : goal.next_scan-requires
next_scan-requires g c = record {
  sizes = ap (λ (s : Scan). length s.ins) c.in_ok-scan.ensures ∙ length-replicate _ _ ∙ sym c.items.invariant.inputs;
}

pub take_scan-requires-clause-recorded : goal.take_scan-requires-clause-recorded
take_scan-requires-clause-recorded g c = c.items.invariant.recorded

pub take_scan-requires-clause-due : goal.take_scan-requires-clause-due
take_scan-requires-clause-due g c =
    let fills = subst (λ (n : Next). Fills n c.items.trace c.next_scan.new.self c.in_ok-scan.scan c.next_scan.new.into) c.in-Ok-Scan.field-0-is c.in-Ok-Scan.ensures.fills in
    omega (arith, c.items.invariant.due, fills.1)

pub take_scan-requires-clause-inputs : goal.take_scan-requires-clause-inputs
take_scan-requires-clause-inputs g c =
    let fills = subst (λ (n : Next). Fills n c.items.trace c.next_scan.new.self c.in_ok-scan.scan c.next_scan.new.into) c.in-Ok-Scan.field-0-is c.in-Ok-Scan.ensures.fills in
    fills.0 ∙ ap (λ (s : Scan). length s.ins) c.in_ok-scan.ensures ∙ length-replicate _ _

pub take_restart-requires : goal.take_restart-requires
take_restart-requires g c = c.items.invariant.recorded

-- ---- What holds if memory runs out.

pub returns-in_err-recorder : goal.returns-in_err-recorder
returns-in_err-recorder g c =
    let failed = c.from_residual.ensures.1 in
    record {
      course = unsaid _ _ c.from_residual.result failed;
      items = λ ft text is reading. unsaid _ _ c.from_residual.result failed;
      refuses = λ ft text is reading refusal e. no_value _ c.from_residual.result _ failed e;
      fault = λ e. no_value _ c.from_residual.result _ failed e;
      reads = λ name. no_more (g.F.Files.faults c.args.files.now name);
      kept = refl;
      reading = refl;
    }

pub returns-in_err-scan : goal.returns-in_err-scan
returns-in_err-scan g c =
    let failed = c.from_residual-in_err-scan.ensures.1 in
    record {
      course = unsaid _ _ c.from_residual-in_err-scan.result failed;
      items = λ ft text is reading. unsaid _ _ c.from_residual-in_err-scan.result failed;
      refuses = λ ft text is reading refusal e. no_value _ c.from_residual-in_err-scan.result _ failed e;
      fault = λ e. no_value _ c.from_residual-in_err-scan.result _ failed e;
      reads = λ name. (let same = c.items.invariant.all_read name in omega (arith, same));
      kept = c.items.invariant.kept;
      reading = c.items.invariant.telling;
    }

pub returns-in_err-take_scan-in-Ok-Scan : goal.returns-in_err-take_scan-in-Ok-Scan
returns-in_err-take_scan-in-Ok-Scan g c =
    let failed = c.from_residual-in_err-take_scan-in-Ok-Scan.ensures.1 in
    record {
      course = unsaid _ _ c.from_residual-in_err-take_scan-in-Ok-Scan.result failed;
      items = λ ft text is reading. unsaid _ _ c.from_residual-in_err-take_scan-in-Ok-Scan.result failed;
      refuses = λ ft text is reading refusal e. no_value _ c.from_residual-in_err-take_scan-in-Ok-Scan.result _ failed e;
      fault = λ e. no_value _ c.from_residual-in_err-take_scan-in-Ok-Scan.result _ failed e;
      reads = λ name.
          subst (λ (n : ℕ). n ≤ g.F.Files.faults c.next_scan.new.files name) (c.items.invariant.all_read name) (c.in-Ok-Scan.ensures.counts name);
      kept = c.in-Ok-Scan.ensures.kept ∙ c.items.invariant.kept;
      reading = c.in-Ok-Scan.ensures.telling ∙ c.items.invariant.telling;
    }

pub returns-in_err-take_restart-in-Ok-Restart : goal.returns-in_err-take_restart-in-Ok-Restart
returns-in_err-take_restart-in-Ok-Restart g c =
    let failed = c.from_residual-in_err-take_restart-in-Ok-Restart.ensures.1 in
    record {
      course = unsaid _ _ c.from_residual-in_err-take_restart-in-Ok-Restart.result failed;
      items = λ ft text is reading. unsaid _ _ c.from_residual-in_err-take_restart-in-Ok-Restart.result failed;
      refuses = λ ft text is reading refusal e. no_value _ c.from_residual-in_err-take_restart-in-Ok-Restart.result _ failed e;
      fault = λ e. no_value _ c.from_residual-in_err-take_restart-in-Ok-Restart.result _ failed e;
      reads = λ name.
          subst (λ (n : ℕ). n ≤ g.F.Files.faults c.next_scan.new.files name) (c.items.invariant.all_read name) (c.in-Ok-Restart.ensures.counts name);
      kept = c.in-Ok-Restart.ensures.kept ∙ c.items.invariant.kept;
      reading = c.in-Ok-Restart.ensures.telling ∙ c.items.invariant.telling;
    }
