-- How a call ends after its output handed on what it held back.
use Rattle.std.proofs.Common.{◌≡◌, ◌≢◌, ◌⊎◌, ◌<◌, ◌≤◌, ◌++◌, ◌∙◌, ℕ, Bool, true, false, IsTrue, List, [], None, Any, Result, Ok, Err, OnOk, OnErr, refl, sym, subst, inl, inr, ⊎_elim, append-nil, arith}
use Rattle.ps_outside.specs.Outside.{CountsStay, Rose, last_count}
use Rattle.ps_top.specs.Asking.{Answer, IsLeft, worked}
use Rattle.ps_top.specs.Calls.{FilesSeen, KeepsFiles, KeepsOutput, LeavesRefusal, OutputSeen}
use Rattle.ps_top.specs.Meets.{AppendsAll, AppendsNothing, AppendsPart, IsCut}
use Rattle.ps_top.specs.Program as program
use Rattle.ps_top.specs.declared.Status.{Status}
use Rattle.ps_top.specs.declared.Status.TheVariants.{Done, Refused, Usage, BadInput, Tripped, ReadFault, WriteFault, Memory}
use Rattle.ps_top.specs.declared.left.Left.{Left}
use Rattle.ps_words.specs.Command as asked
use Rattle.ps_words.specs.Command.Command.{Run, Vote, Heal, NotTaken}
use Rattle.ps_edge.specs.Doing.{Does, IsAsked, IsRight, ReadFailed}

-- what a call does before that
pub record Called (words : List (List ℕ)) (files files' : FilesSeen) (out out' : OutputSeen) (left : Left) (ended : Status) : Type 0 where
  pub status : IsTrue files.tells → ¬ IsCut ended → (answer : Answer) × IsRight words files answer × (ended ≡ answer.status)
  pub whole : IsTrue files.tells → ¬ IsCut ended → AppendsAll (IsRight words files) out.tells out.taken out'.taken ended
  pub quiet : IsTrue files.tells → (app trace : List ℕ) → asked.command_of words ≡ Run app trace → ended ≢ Tripped
  pub untripped : IsTrue files.tells → (app trace faults : List ℕ) →
      (asked.command_of words ≡ Vote app trace faults) ⊎ (asked.command_of words ≡ Heal app trace faults) → ended ≢ Tripped
  pub stopped : IsTrue files.tells → ended ≡ WriteFault → AppendsPart (IsRight words files) out.tells out.taken out'.taken
  pub unread : IsTrue files.tells → IsTrue out.tells → ended ≡ ReadFault →
      (out'.taken ≡ out.taken) ⊎ AppendsPart (IsRight words files) out.tells out.taken out'.taken
  pub memory : IsTrue out.tells → ended ≡ Memory → out'.taken ≡ out.taken
  pub leaves : IsTrue files.tells → ¬ IsCut ended → IsLeft (program.text words) files.held (worked left)
  pub refuses : LeavesRefusal left out' ended
  pub not_held : IsTrue files.tells → (name : List ℕ) → IsAsked words files name → files.held name ≡ None → (ended ≡ ReadFault) ⊎ (ended ≡ Memory)
  pub nothing_written : IsTrue files.tells → IsTrue out.tells → (name : List ℕ) → IsAsked words files name → files.held name ≡ None →
      out'.taken ≡ out.taken
  pub asked_fault : IsTrue files.tells → ended ≡ ReadFault → (name : List ℕ) × IsAsked words files name × ReadFailed files files' name
  pub read_fault : ended ≡ ReadFault → Any (ReadFailed files files') (asked.names_of (asked.command_of words))
  pub write_fault : ended ≡ WriteFault → Rose out.faults out'.faults
  pub no_read_failed : ended ≢ ReadFault → CountsStay files.faults files'.faults
  pub no_write_failed : ended ≢ WriteFault → out'.faults ≡ out.faults
  pub usage : ended ≡ Usage → asked.command_of words ≡ NotTaken
  pub not_taken : asked.command_of words ≡ NotTaken → (ended ≡ Usage) ⊎ ((ended ≡ WriteFault) ⊎ (ended ≡ Memory))
  pub completes : IsTrue files.tells → ((name : List ℕ) → IsAsked words files name → ¬ (ReadFailed files files' name)) →
      ¬ (Rose out.faults out'.faults) → (ended ≡ Memory) ⊎ AppendsAll (IsRight words files) out.tells out.taken out'.taken ended
  pub kept : files'.held ≡ files.held
  pub files_telling : files'.tells ≡ files.tells
  pub counts : (name : List ℕ) → files.faults name ≤ files'.faults name
  pub output_telling : out'.tells ≡ out.tells
  pub output_count : out.faults ≤ out'.faults

-- what an output does that hands on what it held back
pub record HandsOn {T E : Type 0} (handed : Result T E) (old new : OutputSeen) : Type 0 where
  pub failed : OnErr handed (Rose old.faults new.faults)
  pub exact : OnOk handed (new.faults ≡ old.faults)
  pub counts : old.faults ≤ new.faults
  pub kept : new.taken ≡ old.taken
  pub telling : new.tells ≡ old.tells

-- all of an answer is a beginning of it
part_of_all : (IsRight : Answer → Type 0) (tells : Bool) (before after : List ℕ) (status : Status) →
    AppendsAll IsRight tells before after status → AppendsPart IsRight tells before after
part_of_all IsRight tells before after status all = record {
  answer = all.answer;
  right = all.right;
  written = all.answer.bytes;
  owed = [];
  whole = append-nil all.answer.bytes;
  appended = all.appended;
}

-- what holds of an output that tells is nothing that one does not
by_telling : (tells : Bool) (before after : List ℕ) (Part : Type 0) → (IsTrue tells → (after ≡ before) ⊎ Part) → AppendsNothing tells before after ⊎ Part
by_telling true before after Part said = ⊎_elim (λ (same : after ≡ before). inl (λ told. same)) (λ (part : Part). inr part) (said refl)
by_telling false before after Part said = inl (λ told. cc)

-- a count that did not fall and then rose, rose
rose_later : (before between after : ℕ) → before ≤ between → Rose between after → Rose before after
rose_later before between after up (inl more) = inl (omega arith)
rose_later before between after up (inr last) = inr last

module _ (words : List (List ℕ)) (files files' : FilesSeen) (out mid out' : OutputSeen) (left : Left) where
  -- the output took nothing or a beginning, however the call ended
  begun : (before : Status) → Called words files files' out mid left before → IsTrue files.tells →
      AppendsNothing out.tells out.taken mid.taken ⊎ AppendsPart (IsRight words files) out.tells out.taken mid.taken
  begun Done c tells = inr (part_of_all _ _ _ _ Done (c.whole tells (λ cut. grind arith)))
  begun Refused c tells = inr (part_of_all _ _ _ _ Refused (c.whole tells (λ cut. grind arith)))
  begun Usage c tells = inr (part_of_all _ _ _ _ Usage (c.whole tells (λ cut. grind arith)))
  begun BadInput c tells = inr (part_of_all _ _ _ _ BadInput (c.whole tells (λ cut. grind arith)))
  begun Tripped c tells = inr (part_of_all _ _ _ _ Tripped (c.whole tells (λ cut. grind arith)))
  begun ReadFault c tells = by_telling out.tells out.taken mid.taken _ (λ told. c.unread tells told refl)
  begun WriteFault c tells = inr (c.stopped tells refl)
  begun Memory c tells = inl (λ told. c.memory told refl)

  -- a handing on that took nothing more leaves a beginning as it was
  still_begun : mid.taken ≡ out'.taken → AppendsNothing out.tells out.taken mid.taken ⊎ AppendsPart (IsRight words files) out.tells out.taken mid.taken →
      AppendsNothing out.tells out.taken out'.taken ⊎ AppendsPart (IsRight words files) out.tells out.taken out'.taken
  still_begun same begun =
      subst (λ (taken : List ℕ). AppendsNothing out.tells out.taken taken ⊎ AppendsPart (IsRight words files) out.tells out.taken taken) same begun

  -- where it was done, the call ended as before
  done : (before : Status) → Called words files files' out mid left before → out'.faults ≡ mid.faults → out'.taken ≡ mid.taken → out'.tells ≡ mid.tells →
      Does words files files' out out' left before
  done before c count kept telling = record {
    status = c.status;
    whole = λ tells not. subst (λ (taken : List ℕ). AppendsAll (IsRight words files) out.tells out.taken taken before) (sym kept) (c.whole tells not);
    quiet = c.quiet;
    untripped = c.untripped;
    stopped = λ tells is. still_begun (sym kept) (inr (c.stopped tells is));
    unread = λ tells is. still_begun (sym kept) (by_telling out.tells out.taken mid.taken _ (λ told. c.unread tells told is));
    memory = λ is told. kept ∙ c.memory told is;
    leaves = c.leaves;
    refuses = λ refusing. let found = c.refuses refusing in
        (found.0, found.1, λ tells. let ends = found.2 (sym telling ∙ tells) in (ends.0, kept ∙ ends.1));
    not_held = λ tells name asked none. ⊎_elim (λ (is : before ≡ ReadFault). inl is) (λ (is : before ≡ Memory). inr (inr is)) (c.not_held tells name asked none);
    nothing_written = λ tells name asked none told. kept ∙ c.nothing_written tells told name asked none;
    asked_fault = c.asked_fault;
    read_fault = c.read_fault;
    write_fault = λ is. subst (λ (count : ℕ). Rose out.faults count) (sym count) (c.write_fault is);
    no_read_failed = λ not no_write. c.no_read_failed not;
    no_write_failed = λ not. count ∙ c.no_write_failed not;
    usage = c.usage;
    not_taken = c.not_taken;
    completes = λ tells reads none.
        subst (λ (taken : List ℕ). (before ≡ Memory) ⊎ AppendsAll (IsRight words files) out.tells out.taken taken before) (sym kept)
        (c.completes tells reads (λ (rose : Rose out.faults mid.faults). none (subst (λ (n : ℕ). Rose out.faults n) (sym count) rose)));
    keeps_files = record { counts = c.counts; held = c.kept; telling = c.files_telling };
    keeps_output = record { counts = subst (λ (n : ℕ). out.faults ≤ n) (sym count) c.output_count; telling = telling ∙ c.output_telling };
  }

  -- where it failed a write failed, whatever the call came to before
  failed : (before : Status) → Called words files files' out mid left before → Rose mid.faults out'.faults → mid.faults ≤ out'.faults →
      out'.taken ≡ mid.taken → out'.tells ≡ mid.tells → Does words files files' out out' left WriteFault
  failed before c rose counts kept telling = record {
    status = λ tells not. absurd (not (inr (inl refl)));
    whole = λ tells not. absurd (not (inr (inl refl)));
    quiet = λ tells app trace is trips. cc;
    untripped = λ tells app trace faults is trips. cc;
    stopped = λ tells is. still_begun (sym kept) (begun before c tells);
    unread = λ tells is. cc;
    memory = λ is. cc;
    leaves = λ tells not. absurd (not (inr (inl refl)));
    refuses = λ refusing. ⊎_elim (λ (is : WriteFault ≡ Refused). cc) (λ (is : WriteFault ≡ BadInput). cc) refusing;
    not_held = λ tells name asked none. inr (inl refl);
    nothing_written = λ tells name asked none told. kept ∙ c.nothing_written tells told name asked none;
    asked_fault = λ tells is. cc;
    read_fault = λ is. cc;
    write_fault = λ is. rose_later out.faults mid.faults out'.faults c.output_count rose;
    no_read_failed = λ no_read not. absurd (not refl);
    no_write_failed = λ not. absurd (not refl);
    usage = λ is. cc;
    not_taken = λ is. inr (inl refl);
    completes = λ tells reads none. absurd (none (rose_later out.faults mid.faults out'.faults c.output_count rose));
    keeps_files = record { counts = c.counts; held = c.kept; telling = c.files_telling };
    keeps_output = record { counts = omega arith; telling = telling ∙ c.output_telling };
  }

  -- What a call does in all, by what it did before, what its output did then, and the status by both.
  pub in_all : {T E : Type 0} (handed : Result T E) (before after : Status) → Called words files files' out mid left before → HandsOn handed mid out' →
      OnOk handed (after ≡ before) → OnErr handed (after ≡ WriteFault) → Does words files files' out out' left after
  in_all (Ok x) before after c hands same fault =
      subst (λ (status : Status). Does words files files' out out' left status) (sym same) (done before c hands.exact hands.kept hands.telling)
  in_all (Err e) before after c hands same fault =
      subst (λ (status : Status). Does words files files' out out' left status) (sym fault) (failed before c hands.failed hands.counts hands.kept hands.telling)

-- unless a write failed the handing on was done
pub handed : {T E : Type 0} {Done : Type 0} (flushed : Result T E) (result : Status) → OnOk flushed Done → OnErr flushed (result ≡ WriteFault) →
    result ≢ WriteFault → Done
handed (Ok x) result done fault not = done
handed (Err e) result done fault not = absurd (not fault)
