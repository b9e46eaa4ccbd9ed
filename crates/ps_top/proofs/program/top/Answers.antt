use Rattle.std.proofs.Common.{◌≡◌, ◌∙◌, ◌⊎◌, ◌≤◌, ◌++◌, ℕ, List, Any, Option, Some, IsTrue, rules, true, false, sym, subst, ⊎_elim, inl, inr}
use Rattle.ps_base.specs.declared.failing.Refusal.{Refusal}
use Rattle.ps_outside.specs.Outside.{CountsStay, Rose}
use Rattle.ps_report.specs.Short.{refusal_text}
use Rattle.ps_words.specs.Command.{Command, command_of, names_of}
use Rattle.ps_top.specs.Asking.{AsksFor, IsAnswer, IsLeft, IsLeftAfter, Worked, worked}
use Rattle.ps_top.specs.Meets.{AppendsAll, AppendsPart, IsCut}
use Rattle.ps_top.specs.Program as program
use Rattle.ps_top.specs.declared.Status.TheVariants.{ReadFault, WriteFault, Memory}
use Rattle.ps_top.proofs.Completing.{all_said, not_cut_tripped, nothing_said}
use Rattle.ps_top.proofs.OneAnswer.{not_held_none}
use Rattle.ps_top.proofs.Quiet.{never_tripped, votes_never_trip}
use Rattle.ps_top.proofs.program.top.Goals as goal

-- what holds of what the call held at its end holds of what it is given back as
stays : {A : Type 0} {x y : A} → x ≡ y → (P : A → Type 0) → P y → P x
stays is P p = subst P (sym is) p

-- and the other way round
moves : {A : Type 0} {x y : A} → x ≡ y → (P : A → Type 0) → P x → P y
moves is P p = subst P is p

pub returns-clause-status : goal.returns-clause-status
returns-clause-status g c = λ tells not_cut. let all = (c.do_all-status.ensures.answers.meets tells).gives.whole not_cut in (all.answer, all.right, all.ended)

pub returns-clause-whole : goal.returns-clause-whole
returns-clause-whole g c = λ tells.
    stays (search rules) (λ (s : g.row.S.Denot). ¬ IsCut c.do_all-status.result → AppendsAll (IsAnswer (program.text c.args.words.now) (g.F.Files.held c.args.files.now)) (g.S.Sink.tells c.args.out.now) (g.S.Sink.taken c.args.out.now) (g.S.Sink.taken s) c.do_all-status.result)
    (c.do_all-status.ensures.answers.meets tells).gives.whole

pub returns-clause-quiet : goal.returns-clause-quiet
returns-clause-quiet g c = λ tells app trace asks tripped.
    let held = g.F.Files.held c.args.files.now in
    let all = (c.do_all-status.ensures.answers.meets tells).gives.whole (λ cut. not_cut_tripped (subst IsCut tripped cut)) in
    never_tripped app trace held all.answer (subst (λ (command : Command). IsAnswer (program.said command) held all.answer) asks all.right) (sym all.ended ∙ tripped)

pub returns-clause-untripped : goal.returns-clause-untripped
returns-clause-untripped g c = λ tells app trace faults asks tripped.
    let held = g.F.Files.held c.args.files.now in
    let all = (c.do_all-status.ensures.answers.meets tells).gives.whole (λ cut. not_cut_tripped (subst IsCut tripped cut)) in
    ⊎_elim
    (λ is. votes_never_trip false app trace faults held all.answer (subst (λ (command : Command). IsAnswer (program.said command) held all.answer) is all.right) (sym all.ended ∙ tripped))
    (λ is. votes_never_trip true app trace faults held all.answer (subst (λ (command : Command). IsAnswer (program.said command) held all.answer) is all.right) (sym all.ended ∙ tripped))
    asks

pub returns-clause-stopped : goal.returns-clause-stopped
returns-clause-stopped g c = λ tells.
    stays (search rules) (λ (s : g.row.S.Denot). c.do_all-status.result ≡ WriteFault → AppendsPart (IsAnswer (program.text c.args.words.now) (g.F.Files.held c.args.files.now)) (g.S.Sink.tells c.args.out.now) (g.S.Sink.taken c.args.out.now) (g.S.Sink.taken s))
    (c.do_all-status.ensures.answers.meets tells).gives.stopped

pub returns-clause-unread : goal.returns-clause-unread
returns-clause-unread g c = λ tells on is.
    stays (search rules) (λ (s : g.row.S.Denot). (g.S.Sink.taken s ≡ g.S.Sink.taken c.args.out.now) ⊎ AppendsPart (IsAnswer (program.text c.args.words.now) (g.F.Files.held c.args.files.now)) (g.S.Sink.tells c.args.out.now) (g.S.Sink.taken c.args.out.now) (g.S.Sink.taken s))
    (⊎_elim (λ nothing. inl (nothing on)) inr ((c.do_all-status.ensures.answers.meets tells).gives.unread is))

pub returns-clause-memory : goal.returns-clause-memory
returns-clause-memory g c = λ on is.
    stays (search rules) (λ (s : g.row.S.Denot). g.S.Sink.taken s ≡ g.S.Sink.taken c.args.out.now) (c.do_all-status.ensures.answers.causes.memory is on)

pub returns-clause-leaves : goal.returns-clause-leaves
returns-clause-leaves g c = λ tells not_cut.
    stays {y = worked c.do_all-status.new.call.left.now} (search rules) (λ (w : Worked). IsLeft (program.text c.args.words.now) (g.F.Files.held c.args.files.now) w)
    (subst (λ (w : Worked). IsLeftAfter (program.text c.args.words.now) (g.F.Files.held c.args.files.now) w (worked c.do_all-status.new.call.left.now))
    (λ i. record {
      checked = c.new.ensures.checked i;
      world = c.new.ensures.world i;
      votes = c.new.ensures.votes i;
      trip = c.new.ensures.trip i;
      again = c.new.ensures.again i;
      text = c.new.ensures.text i;
      app = c.new.ensures.app i;
      source = c.new.ensures.source i;
    })
    (c.do_all-status.ensures.answers.leaves tells not_cut))

pub returns-clause-refuses : goal.returns-clause-refuses
returns-clause-refuses g c = λ refusing.
    let r = c.do_all-status.ensures.answers.refuses refusing in (
      r.0,
      stays {y = c.do_all-status.new.call.left.now.refusal} (search rules) (λ (o : Option Refusal). o ≡ Some r.0) r.1,
      stays {y = c.do_all-status.new.call.out.now} (search rules) (λ (s : g.row.S.Denot). IsTrue (g.S.Sink.tells s) → (front : List ℕ) × (g.S.Sink.taken s ≡ front ++ refusal_text r.0)) r.2,
    )

pub returns-clause-not_held : goal.returns-clause-not_held
returns-clause-not_held g c = λ tells name asks none.
    (nothing_said (program.text c.args.words.now) (g.F.Files.held c.args.files.now) _ _ _ _ c.do_all-status.result (c.do_all-status.ensures.answers.meets tells)
    (not_held_none c.args.words.now (g.F.Files.held c.args.files.now) name asks none)).1

pub returns-clause-nothing_written : goal.returns-clause-nothing_written
returns-clause-nothing_written g c = λ tells on name asks none.
    stays (search rules) (λ (s : g.row.S.Denot). g.S.Sink.taken s ≡ g.S.Sink.taken c.args.out.now)
    ((nothing_said (program.text c.args.words.now) (g.F.Files.held c.args.files.now) _ _ _ _ c.do_all-status.result (c.do_all-status.ensures.answers.meets tells)
    (not_held_none c.args.words.now (g.F.Files.held c.args.files.now) name asks none)).0 on)

pub returns-clause-asked_fault : goal.returns-clause-asked_fault
returns-clause-asked_fault g c = λ tells.
    stays (search rules)
    (λ (f : g.row.F.Denot). c.do_all-status.result ≡ ReadFault → (name : List ℕ) × AsksFor (program.text c.args.words.now) (g.F.Files.held c.args.files.now) name × Rose (g.F.Files.faults c.args.files.now name) (g.F.Files.faults f name))
    (c.do_all-status.ensures.answers.meets tells).read_fault

pub returns-clause-read_fault : goal.returns-clause-read_fault
returns-clause-read_fault g c =
    stays (search rules) (λ (f : g.row.F.Denot). c.do_all-status.result ≡ ReadFault → Any (λ name. Rose (g.F.Files.faults c.args.files.now name) (g.F.Files.faults f name)) (names_of (command_of c.args.words.now)))
    c.do_all-status.ensures.answers.causes.read_fault

pub returns-clause-write_fault : goal.returns-clause-write_fault
returns-clause-write_fault g c =
    stays (search rules) (λ (s : g.row.S.Denot). c.do_all-status.result ≡ WriteFault → Rose (g.S.Sink.faults c.args.out.now) (g.S.Sink.faults s)) c.do_all-status.ensures.answers.causes.write_fault

pub returns-clause-no_read_failed : goal.returns-clause-no_read_failed
returns-clause-no_read_failed g c =
    stays (search rules) (λ (f : g.row.F.Denot). ¬ (c.do_all-status.result ≡ ReadFault) → CountsStay (g.F.Files.faults c.args.files.now) (g.F.Files.faults f)) c.do_all-status.ensures.answers.causes.reads_exact

pub returns-clause-no_write_failed : goal.returns-clause-no_write_failed
returns-clause-no_write_failed g c =
    stays (search rules) (λ (s : g.row.S.Denot). ¬ (c.do_all-status.result ≡ WriteFault) → g.S.Sink.faults s ≡ g.S.Sink.faults c.args.out.now) c.do_all-status.ensures.answers.causes.writes_exact

pub returns-clause-completes : goal.returns-clause-completes
returns-clause-completes g c = λ tells no_read no_write.
    stays (search rules) (λ (s : g.row.S.Denot). (c.do_all-status.result ≡ Memory) ⊎ AppendsAll (IsAnswer (program.text c.args.words.now) (g.F.Files.held c.args.files.now)) (g.S.Sink.tells c.args.out.now) (g.S.Sink.taken c.args.out.now) (g.S.Sink.taken s) c.do_all-status.result)
    (all_said (program.text c.args.words.now) (g.F.Files.held c.args.files.now) _ _ _ _ c.do_all-status.result (c.do_all-status.ensures.answers.meets tells)
    (moves {y = c.do_all-status.new.call.files.now} (search rules)
    (λ (f : g.row.F.Denot). (name : List ℕ) → AsksFor (program.text c.args.words.now) (g.F.Files.held c.args.files.now) name → ¬ (Rose (g.F.Files.faults c.args.files.now name) (g.F.Files.faults f name))) no_read)
    (λ write. moves {y = c.do_all-status.new.call.out.now} (search rules) (λ (s : g.row.S.Denot). ¬ (Rose (g.S.Sink.faults c.args.out.now) (g.S.Sink.faults s))) no_write
    (c.do_all-status.ensures.answers.causes.write_fault write)))

pub returns-clause-kept : goal.returns-clause-kept
returns-clause-kept g c =
    stays (search rules) (λ (f : g.row.F.Denot). g.F.Files.held f ≡ g.F.Files.held c.args.files.now) c.do_all-status.ensures.answers.causes.keeps.files.held

pub returns-clause-files_telling : goal.returns-clause-files_telling
returns-clause-files_telling g c =
    stays (search rules) (λ (f : g.row.F.Denot). g.F.Files.tells f ≡ g.F.Files.tells c.args.files.now) c.do_all-status.ensures.answers.causes.keeps.files.telling

pub returns-clause-counts : goal.returns-clause-counts
returns-clause-counts g c =
    stays (search rules) (λ (f : g.row.F.Denot). (name : List ℕ) → g.F.Files.faults c.args.files.now name ≤ g.F.Files.faults f name) c.do_all-status.ensures.answers.causes.keeps.files.counts

pub returns-clause-output_telling : goal.returns-clause-output_telling
returns-clause-output_telling g c =
    stays (search rules) (λ (s : g.row.S.Denot). g.S.Sink.tells s ≡ g.S.Sink.tells c.args.out.now) c.do_all-status.ensures.answers.causes.keeps.out.telling

pub returns-clause-output_count : goal.returns-clause-output_count
returns-clause-output_count g c =
    stays (search rules) (λ (s : g.row.S.Denot). g.S.Sink.faults c.args.out.now ≤ g.S.Sink.faults s) c.do_all-status.ensures.answers.causes.keeps.out.counts
