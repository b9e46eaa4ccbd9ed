-- What calls promise, put together from their parts.
use Rattle.std.specs.Prelude.{slice_index_or}
use Rattle.std.proofs.Common.{◌≡◌, ◌⊎◌, ◌<◌, ℕ, zero, suc, Bool, IsTrue, List, [], ◌∷◌, Option, Some, Result, Err, Any, refl, sym, ◌∙◌, ap, subst, inl, inr, ⊎_elim, append-nil, arith}
use Rattle.ps_outside.specs.Outside.{CountsStay, Rose}
use Rattle.ps_runs.specs.declared.items.Cut.{Cut}
use Rattle.ps_runs.specs.declared.items.Cut.TheVariants.{Unread}
use Rattle.ps_top.specs.Asking.{Answer, Asking, IsAnswer, AsksFor, IsLeftAfter, Worked, worked}
use Rattle.ps_top.specs.Asking.Asking.{Says, Asks, Finds, Leaves}
use Rattle.ps_top.specs.Calls.{OutputSeen, CallSeen, NameRose, KeepsFiles, KeepsOutput, KeepsCall, GoesOn, Passes, ReadsName, Writes, Streams, Causes, Answers, SaysAnswer, LeavesRefusal, with_left}
use Rattle.ps_top.specs.Meets.{IsCut, Gives, Meets}
use Rattle.ps_top.specs.declared.Status.{Status}
use Rattle.ps_top.specs.declared.Status.TheVariants.{ReadFault, WriteFault, Memory}
use Rattle.ps_top.specs.declared.left.Left.{Left}
use Rattle.ps_top.proofs.Meeting.{rose_earlier, gives_wider, given_behind, part_given, memory_meets, unread_meets, said_meets}
use Rattle.ps_top.proofs.Refusals.{memory_refuses, unread_refuses}

-- ---- names

any_first : {P : List ℕ → Type 0} (name : List ℕ) (names : List (List ℕ)) → P name → Any P (name ∷ names)
any_first name names p = (0, name, omega arith, refl, p)

any_later : {P : List ℕ → Type 0} (name : List ℕ) (names : List (List ℕ)) → Any P names → Any P (name ∷ names)
any_later name names any = (suc any.0, any.1, omega (arith, any.2), any.3, any.4)

any_wider : {P Q : List ℕ → Type 0} (names : List (List ℕ)) → ((name : List ℕ) → P name → Q name) → Any P names → Any Q names
any_wider names wider any = (any.0, any.1, any.2, any.3, wider any.1 any.4)

only_at : (P : List ℕ → Type 0) (name : List ℕ) (k : ℕ) (other : List ℕ) → k < 1 → slice_index_or (name ∷ []) k other ≡ other → P other → P name
only_at P name zero other lt is p = subst P (sym is) p
only_at P name (suc k) other lt is p = absurd (omega (arith, lt))

-- of one name alone
pub any_only : (P : List ℕ → Type 0) (name : List ℕ) → Any P (name ∷ []) → P name
any_only P name any = only_at P name any.0 any.1 any.2 any.3 any.4

-- ---- what stays

output_same : (old new : OutputSeen) → new ≡ old → KeepsOutput old new
output_same old new is = let count : new.faults ≡ old.faults = ap (λ (o : OutputSeen). o.faults) is in
    record { counts = omega (arith, count); telling = ap (λ (o : OutputSeen). o.tells) is }

files_both : (old mid new : CallSeen) → KeepsFiles old.files mid.files → KeepsFiles mid.files new.files → KeepsFiles old.files new.files
files_both old mid new first second = record {
  counts = λ name. omega (arith, first.counts name, second.counts name);
  held = second.held ∙ first.held;
  telling = second.telling ∙ first.telling;
}

pub keeps_both : {old mid new : CallSeen} → KeepsCall old mid → KeepsCall mid new → KeepsCall old new
keeps_both {old} {mid} {new} first second = record {
  files = files_both old mid new first.files second.files;
  out = record { counts = omega (arith, first.out.counts, second.out.counts); telling = second.out.telling ∙ first.out.telling };
  loans = second.loans ∙ first.loans;
}

counts_both : {a b c : List ℕ → ℕ} → CountsStay a b → CountsStay b c → CountsStay a c
counts_both first second = λ name. second name ∙ first name

pub keeps_of_passes : {old new : CallSeen} → Passes old new → KeepsCall old new
keeps_of_passes {old} {new} passes = record { files = passes.keeps; out = output_same old.out new.out passes.out; loans = passes.loans }

pub passes_same : (call : CallSeen) → Passes call call
passes_same call = record { reads = λ name. refl; keeps = record { counts = λ name. omega arith; held = refl; telling = refl }; out = refl; loans = refl }

pub passes_both : {old mid new : CallSeen} → Passes old mid → Passes mid new → Passes old new
passes_both {old} {mid} {new} first second = record {
  reads = counts_both first.reads second.reads;
  keeps = files_both old mid new first.keeps second.keeps;
  out = second.out ∙ first.out;
  loans = second.loans ∙ first.loans;
}

-- something is left
pub passes_left : {old new : CallSeen} (left : Left) → new ≡ with_left left old → Passes old new
passes_left {old} left is = subst (λ (c : CallSeen). Passes old c) (sym is) (record { reads = λ name. refl; keeps = record { counts = λ name. omega arith; held = refl; telling = refl }; out = refl; loans = refl })

-- a name was read
pub passes_read : {name : List ℕ} {failed : Type 0} {old new : CallSeen} → ¬ failed → ReadsName name failed old new → Passes old new
passes_read not reads = record { reads = reads.exact not; keeps = reads.keeps; out = reads.out; loans = reads.loans }

-- a name was read, and the read failed
pub surely_read : {name : List ℕ} {failed : Type 0} {old new : CallSeen} → failed → ReadsName name failed old new → ReadsName name (Unit {0}) old new
surely_read fails reads = record {
  rose = λ _. reads.rose fails;
  exact = λ not. absurd (not tt);
  keeps = reads.keeps;
  out = reads.out;
  left = reads.left;
  loans = reads.loans;
}

pub goes_of_passes : {old new : CallSeen} → Passes old new → GoesOn old new
goes_of_passes passes = record { reads = passes.reads; writes = ap (λ (o : OutputSeen). o.faults) passes.out; keeps = keeps_of_passes passes }

keeps_of_read : {name : List ℕ} {failed : Type 0} {old new : CallSeen} → ReadsName name failed old new → KeepsCall old new
keeps_of_read {old = old} {new = new} reads = record { files = reads.keeps; out = output_same old.out new.out reads.out; loans = reads.loans }

pub keeps_of_writes : {failed : Type 0} {old new : CallSeen} → Writes failed old new → KeepsCall old new
keeps_of_writes {old = old} {new = new} writes = record {
  files = record {
    counts = λ name. let same : new.files.faults name ≡ old.files.faults name = ap (λ f. f.faults name) writes.files in omega (arith, same);
    held = ap (λ f. f.held) writes.files;
    telling = ap (λ f. f.tells) writes.files;
  };
  out = writes.keeps;
  loans = writes.loans;
}

-- ---- causes

rose_behind : (old mid new : CallSeen) (name : List ℕ) → KeepsFiles old.files mid.files → NameRose mid new name → NameRose old new name
rose_behind old mid new name keeps rose = rose_earlier (old.files.faults name) (mid.files.faults name) (new.files.faults name) (keeps.counts name) rose

still_writes : {old mid : CallSeen} → Passes old mid → IsTrue old.out.tells → IsTrue mid.out.tells
still_writes passes tells = subst (λ (o : OutputSeen). IsTrue o.tells) (sym passes.out) tells

-- the causes of a call after a part of it that went on without a failure
pub causes_behind : {names : List (List ℕ)} {old mid new : CallSeen} {status : Status} → Passes old mid → Causes names mid new status → Causes names old new status
causes_behind {names} {old} {mid} {new} passes rest = record {
  read_fault = λ is. any_wider names (λ name rose. rose_behind old mid new name passes.keeps rose) (rest.read_fault is);
  write_fault = λ is. subst (λ (o : OutputSeen). Rose o.faults new.out.faults) passes.out (rest.write_fault is);
  reads_exact = λ not. counts_both passes.reads (rest.reads_exact not);
  writes_exact = λ not. rest.writes_exact not ∙ ap (λ (o : OutputSeen). o.faults) passes.out;
  memory = λ is on. rest.memory is (still_writes {old = old} {mid = mid} passes on) ∙ ap (λ (o : OutputSeen). o.taken) passes.out;
  keeps = keeps_both {old = old} {mid = mid} {new = new} (keeps_of_passes passes) rest.keeps;
}

-- the same of one name more
causes_wider : {names : List (List ℕ)} {old new : CallSeen} {status : Status} (name : List ℕ) → Causes names old new status → Causes (name ∷ names) old new status
causes_wider {names} name causes = record {
  read_fault = λ is. any_later name names (causes.read_fault is);
  write_fault = causes.write_fault;
  reads_exact = causes.reads_exact;
  writes_exact = causes.writes_exact;
  memory = causes.memory;
  keeps = causes.keeps;
}

pub memory_causes : (names : List (List ℕ)) {old new : CallSeen} → Passes old new → Causes names old new Memory
memory_causes names passes = record {
  read_fault = λ is. cc;
  write_fault = λ is. cc;
  reads_exact = λ not. passes.reads;
  writes_exact = λ not. ap (λ (o : OutputSeen). o.faults) passes.out;
  memory = λ is on. ap (λ (o : OutputSeen). o.taken) passes.out;
  keeps = keeps_of_passes passes;
}

pub unread_causes : (name : List ℕ) (names : List (List ℕ)) {old new : CallSeen} → ReadsName name (Unit {0}) old new → Causes (name ∷ names) old new ReadFault
unread_causes name names reads = record {
  read_fault = λ is. any_first name names (reads.rose tt);
  write_fault = λ is. cc;
  reads_exact = λ not. absurd (not refl);
  writes_exact = λ not. ap (λ (o : OutputSeen). o.faults) reads.out;
  memory = λ is. cc;
  keeps = keeps_of_read reads;
}

-- an answer that is no cut was said: no read failed, and memory was not wanting
pub no_read_said : (said status : Status) → ¬ IsCut said → (status ≡ said) ⊎ (status ≡ WriteFault) → ¬ (status ≡ ReadFault)
no_read_said said status no_cut ends is = ⊎_elim (λ e. no_cut (inl (sym e ∙ is))) (λ e. cc) ends

pub no_memory_said : (said status : Status) → ¬ IsCut said → (status ≡ said) ⊎ (status ≡ WriteFault) → ¬ (status ≡ Memory)
no_memory_said said status no_cut ends is = ⊎_elim (λ e. no_cut (inr (inr (sym e ∙ is)))) (λ e. cc) ends

pub said_causes : (names : List (List ℕ)) {said : Answer} {old new : CallSeen} {status : Status} → ¬ IsCut said.status → SaysAnswer said old new status → Causes names old new status
said_causes names {said} {old} {new} {status} no_cut says = record {
  read_fault = λ is. absurd (no_read_said said.status status no_cut says.ends is);
  write_fault = λ is. says.writes.rose is;
  reads_exact = λ not name. ap (λ f. f.faults name) says.writes.files;
  writes_exact = λ not. says.writes.exact not;
  memory = λ is. absurd (no_memory_said said.status status no_cut says.ends is);
  keeps = keeps_of_writes says.writes;
}

-- an answer was said after a part that wrote nothing of what it says
pub says_behind : {said : Answer} {old mid new : CallSeen} {status : Status} → ¬ IsCut said.status → Writes ⊥ old mid → (IsTrue old.out.tells → mid.out.taken ≡ old.out.taken) →
    SaysAnswer said mid new status → SaysAnswer said old new status
says_behind {said} {old} {mid} {new} {status} no_cut first same says = record {
  gives = given_behind (λ a. a ≡ said) said [] old.out.tells old.out.taken mid.out.taken new.out.taken status refl (λ on. same on ∙ sym (append-nil old.out.taken))
      (subst (λ (b : Bool). Gives (λ a. a ≡ said) b mid.out.taken new.out.taken status) first.keeps.telling says.gives)
      (no_memory_said said.status status no_cut says.ends) (no_read_said said.status status no_cut says.ends);
  ends = says.ends;
  writes = record {
    rose = λ is. rose_earlier old.out.faults mid.out.faults new.out.faults first.keeps.counts (says.writes.rose is);
    exact = λ not. says.writes.exact not ∙ first.exact (λ no. no);
    keeps = record { counts = omega (arith, first.keeps.counts, says.writes.keeps.counts); telling = says.writes.keeps.telling ∙ first.keeps.telling };
    files = says.writes.files ∙ first.files;
    loans = says.writes.loans ∙ first.loans;
  };
}

-- the answer is to be said, but a write that takes nothing fails
pub says_nothing : (said : Answer) {old new : CallSeen} {failed : Type 0} → failed → Writes failed old new → (IsTrue old.out.tells → new.out.taken ≡ old.out.taken) → SaysAnswer said old new WriteFault
says_nothing said {old} {new} fails writes same = record {
  gives = part_given (λ a. a ≡ said) old.out.tells old.out.taken new.out.taken
      (record { answer = said; right = refl; written = []; owed = said.bytes; whole = refl; appended = λ on. same on ∙ sym (append-nil old.out.taken) });
  ends = inr refl;
  writes = record { rose = λ is. writes.rose fails; exact = λ not. absurd (not refl); keeps = writes.keeps; files = writes.files; loans = writes.loans };
}

-- ---- answers

-- memory runs out before anything was written
pub memory_answers : (asking : Asking) (names : List (List ℕ)) {old new : CallSeen} → Passes old new → Answers asking names old new Memory
memory_answers asking names {old} {new} passes = record {
  meets = λ tells. subst (λ (o : OutputSeen). Meets asking old.files.held (NameRose old new) old.out.tells old.out.taken o.taken Memory) (sym passes.out)
      (memory_meets asking old.files.held (NameRose old new) old.out.tells old.out.taken);
  leaves = λ tells not_cut. absurd (not_cut (inr (inr refl)));
  refuses = memory_refuses new.left new.out;
  causes = memory_causes names passes;
}

-- the read of a file failed before anything was written
pub unread_answers : (name : List ℕ) (next : List ℕ → Asking) (names : List (List ℕ)) {old new : CallSeen} → ReadsName name (Unit {0}) old new →
    Answers (Asks name next) (name ∷ names) old new ReadFault
unread_answers name next names {old} {new} reads = record {
  meets = λ tells. subst (λ (o : OutputSeen). Meets (Asks name next) old.files.held (NameRose old new) old.out.tells old.out.taken o.taken ReadFault) (sym reads.out)
      (unread_meets name next old.files.held (NameRose old new) old.out.tells old.out.taken (reads.rose tt));
  leaves = λ tells not_cut. absurd (not_cut (inl refl));
  refuses = unread_refuses new.left new.out;
  causes = unread_causes name names reads;
}

-- a short answer was said
pub said_answers : (said : Answer) (names : List (List ℕ)) {old new : CallSeen} {status : Status} → ¬ IsCut said.status → SaysAnswer said old new status →
    LeavesRefusal new.left new.out status → worked new.left ≡ worked old.left → Answers (Says said) names old new status
said_answers said names {old} {new} {status} no_cut says refuses same = record {
  meets = λ tells. said_meets said old.files.held (NameRose old new) old.out.tells old.out.taken new.out.taken status (no_read_said said.status status no_cut says.ends) says.gives;
  leaves = λ tells not_cut. same;
  refuses = refuses;
  causes = said_causes names no_cut says;
}

-- What is asked goes on as this, where these texts are held, and from where that was left goes on from where this is left.
pub record GoesOnAs (asking rest : Asking) (held : List ℕ → Option (List ℕ)) (before mid : Worked) (status : Status) : Type 0 where
  pub right : (answer : Answer) → IsAnswer rest held answer → IsAnswer asking held answer
  pub asks : (name : List ℕ) → AsksFor rest held name → AsksFor asking held name
  pub leaves : ¬ IsCut status → (work : Worked) → IsLeftAfter rest held mid work → IsLeftAfter asking held before work

module _ (held : List ℕ → Option (List ℕ)) (work : Worked) (status : Status) where
  -- after the text that is held
  pub asks_on : (name text : List ℕ) (next : List ℕ → Asking) → held name ≡ Some text → GoesOnAs (Asks name next) (next text) held work work status
  asks_on name text next is = record {
    right = λ answer right. (text, is, right);
    asks = λ other asks. inr (text, is, asks);
    leaves = λ not_cut last leaves. (text, is, leaves);
  }

  -- after what was found
  pub finds_on : (X : Type 0) (Fits : X → Type 0) (next : X → Asking) (x : X) → Fits x → GoesOnAs (Finds X Fits next) (next x) held work work status
  finds_on X Fits next x fits = record {
    right = λ answer right. (x, fits, right);
    asks = λ other asks. (x, fits, asks);
    leaves = λ not_cut last leaves. (x, fits, leaves);
  }

  -- after what is left
  pub leaves_on : (Change : Worked → Worked → Type 0) (next : Asking) (mid : Worked) → (¬ IsCut status → Change work mid) → GoesOnAs (Leaves Change next) next held work mid status
  leaves_on Change next mid change = record {
    right = λ answer right. right;
    asks = λ other asks. asks;
    leaves = λ not_cut last leaves. (mid, change not_cut, leaves);
  }

  pub goes_both : (then later : Worked) (asking mid rest : Asking) → GoesOnAs asking mid held work then status → GoesOnAs mid rest held then later status → GoesOnAs asking rest held work later status
  goes_both then later asking mid rest first second = record {
    right = λ answer right. first.right answer (second.right answer right);
    asks = λ other asks. first.asks other (second.asks other asks);
    leaves = λ not_cut last leaves. first.leaves not_cut last (second.leaves not_cut last leaves);
  }

still_tells : {old mid : CallSeen} → Passes old mid → IsTrue old.files.tells → IsTrue mid.files.tells
still_tells passes tells = subst (λ (b : Bool). IsTrue b) (sym passes.keeps.telling) tells

-- the rest of a call, over files that hold the same texts, meets what the whole call is asked
later_meets : (asking rest : Asking) (old mid new : CallSeen) (status : Status) → Passes old mid → GoesOnAs asking rest old.files.held (worked old.left) (worked mid.left) status →
    Meets rest mid.files.held (NameRose mid new) mid.out.tells mid.out.taken new.out.taken status → Meets asking old.files.held (NameRose old new) old.out.tells old.out.taken new.out.taken status
later_meets asking rest old mid new status passes goes meets =
    let there = subst (λ (o : OutputSeen). Meets rest mid.files.held (NameRose mid new) o.tells o.taken new.out.taken status) passes.out meets in
    let here = subst (λ (h : List ℕ → Option (List ℕ)). Meets rest h (NameRose mid new) old.out.tells old.out.taken new.out.taken status) passes.keeps.held there in
    record {
      gives = gives_wider goes.right here.gives;
      read_fault = λ is. let asked = here.read_fault is in (asked.0, goes.asks asked.0 asked.1, rose_behind old mid new asked.0 passes.keeps asked.2);
    }

-- a call that went on, and then did what it is asked as it goes on
pub answers_behind : (asking rest : Asking) (names : List (List ℕ)) {old mid new : CallSeen} {status : Status} → Passes old mid →
    (IsTrue old.files.tells → GoesOnAs asking rest old.files.held (worked old.left) (worked mid.left) status) → Answers rest names mid new status → Answers asking names old new status
answers_behind asking rest names {old} {mid} {new} {status} passes goes answers = record {
  meets = λ tells. later_meets asking rest old mid new status passes (goes tells) (answers.meets (still_tells {old = old} {mid = mid} passes tells));
  leaves = λ tells not_cut.
      (goes tells).leaves not_cut (worked new.left)
      (subst (λ (h : List ℕ → Option (List ℕ)). IsLeftAfter rest h (worked mid.left) (worked new.left)) passes.keeps.held (answers.leaves (still_tells {old = old} {mid = mid} passes tells) not_cut));
  refuses = answers.refuses;
  causes = causes_behind {old = old} {mid = mid} {new = new} passes answers.causes;
}

-- the same of one name more
pub answers_wider : {asking : Asking} {names : List (List ℕ)} {old new : CallSeen} {status : Status} (name : List ℕ) → Answers asking names old new status →
    Answers asking (name ∷ names) old new status
answers_wider name answers = record { meets = answers.meets; leaves = answers.leaves; refuses = answers.refuses; causes = causes_wider name answers.causes }

-- a call that did what is asked of it as it goes on
pub goes_answers : (asking rest : Asking) (names : List (List ℕ)) {old new : CallSeen} {status : Status} →
    (IsTrue old.files.tells → GoesOnAs asking rest old.files.held (worked old.left) (worked old.left) status) → Answers rest names old new status → Answers asking names old new status
goes_answers asking rest names {old} {new} goes answers = answers_behind asking rest names {old = old} {mid = old} {new = new} (passes_same old) goes answers

-- a call that found something, and did what it goes on as
pub found_of_all : (X : Type 0) (Fits : X → Type 0) (next : X → Asking) (names : List (List ℕ)) {old new : CallSeen} {status : Status} (x : X) → Fits x →
    Answers (next x) names old new status → Answers (Finds X Fits next) names old new status
found_of_all X Fits next names {old} {new} {status} x fits answers =
    goes_answers (Finds X Fits next) (next x) names {old = old} {new = new} (λ tells. finds_on old.files.held (worked old.left) status X Fits next x fits) answers

-- a call that was not cut short, and went on to its end
pub done_causes : (names : List (List ℕ)) (status : Status) {old new : CallSeen} → ¬ IsCut status → GoesOn old new → Causes names old new status
done_causes names status no_cut goes = record {
  read_fault = λ is. absurd (no_cut (inl is));
  write_fault = λ is. absurd (no_cut (inr (inl is)));
  reads_exact = λ not. goes.reads;
  writes_exact = λ not. goes.writes;
  memory = λ is. absurd (no_cut (inr (inr is)));
  keeps = goes.keeps;
}

-- the causes of a call that leaves something at its end
pub causes_left : {names : List (List ℕ)} {old new : CallSeen} {status : Status} (left : Left) → Causes names old new status → Causes names old (with_left left new) status
causes_left left causes = record {
  read_fault = causes.read_fault;
  write_fault = causes.write_fault;
  reads_exact = causes.reads_exact;
  writes_exact = causes.writes_exact;
  memory = causes.memory;
  keeps = record { files = causes.keeps.files; out = causes.keeps.out; loans = causes.keeps.loans };
}

-- two writes, one after the other, of which neither failed
pub writes_both : {failed : Type 0} {old mid new : CallSeen} → Writes ⊥ old mid → ¬ failed → Writes failed mid new → Writes ⊥ old new
writes_both {old = old} {mid = mid} {new = new} first not second = record {
  rose = λ no. absurd no;
  exact = λ no. second.exact not ∙ first.exact (λ e. e);
  keeps = record { counts = omega (arith, first.keeps.counts, second.keeps.counts); telling = second.keeps.telling ∙ first.keeps.telling };
  files = second.files ∙ first.files;
  loans = second.loans ∙ first.loans;
}

-- a write that failed after others that did not
pub writes_failed : {failed : Type 0} {old mid new : CallSeen} → Writes ⊥ old mid → failed → Writes failed mid new → Writes (WriteFault ≡ WriteFault) old new
writes_failed {old = old} {mid = mid} {new = new} first fails second = record {
  rose = λ is. rose_earlier old.out.faults mid.out.faults new.out.faults first.keeps.counts (second.rose fails);
  exact = λ not. absurd (not refl);
  keeps = record { counts = omega (arith, first.keeps.counts, second.keeps.counts); telling = second.keeps.telling ∙ first.keeps.telling };
  files = second.files ∙ first.files;
  loans = second.loans ∙ first.loans;
}

-- an answer was said after something that was left
pub says_left : {said : Answer} {old mid new : CallSeen} {status : Status} (left : Left) → mid ≡ with_left left old → SaysAnswer said mid new status → SaysAnswer said old new status
says_left {said} {old} {mid} {new} {status} left is says =
    let here = subst (λ (c : CallSeen). SaysAnswer said c new status) is says in
    record {
      gives = here.gives;
      ends = here.ends;
      writes = record { rose = here.writes.rose; exact = here.writes.exact; keeps = here.writes.keeps; files = here.writes.files; loans = here.writes.loans };
    }

-- the same read, where the failure is said in other words
pub reads_as : {name : List ℕ} {failed other : Type 0} {old new : CallSeen} → (other → failed) → (failed → other) → ReadsName name failed old new → ReadsName name other old new
reads_as is_failed is_other reads = record {
  rose = λ o. reads.rose (is_failed o);
  exact = λ not. reads.exact (λ f. not (is_other f));
  keeps = reads.keeps;
  out = reads.out;
  left = reads.left;
  loans = reads.loans;
}

-- the items of a trace were done as far as they were
pub keeps_of_streams : {file : List ℕ} {old new : CallSeen} {ended : Result (Unit {0}) Cut} → Streams file old new ended → KeepsCall old new
keeps_of_streams streams = record {
  files = record { counts = streams.failures.reads_rise; held = streams.held; telling = streams.reading };
  out = record { counts = streams.failures.writes_rise; telling = streams.writing };
  loans = streams.loans;
}

-- and then a read of the trace failed
pub unread_items : (file : List ℕ) {old new : CallSeen} {ended : Result (Unit {0}) Cut} → ended ≡ Err Unread → Streams file old new ended → Causes (file ∷ []) old new ReadFault
unread_items file is streams = record {
  read_fault = λ fault. any_first file [] (streams.failures.unread is);
  write_fault = λ fault. cc;
  reads_exact = λ not. absurd (not refl);
  writes_exact = λ not. streams.failures.all_written (λ unwritten. let both = sym is ∙ unwritten in cc);
  memory = λ fault. cc;
  keeps = keeps_of_streams streams;
}

-- a write that did not fail
pub writes_none : {failed : Type 0} {old new : CallSeen} → ¬ failed → Writes failed old new → Writes ⊥ old new
writes_none not writes = record { rose = λ no. absurd no; exact = λ no. writes.exact not; keeps = writes.keeps; files = writes.files; loans = writes.loans }

-- an answer was said of a call with something else left behind
pub says_at : {said : Answer} {old new : CallSeen} {status : Status} (left : Left) → SaysAnswer said old new status → SaysAnswer said (with_left left old) new status
says_at left says = record {
  gives = says.gives;
  ends = says.ends;
  writes = record { rose = says.writes.rose; exact = says.writes.exact; keeps = says.writes.keeps; files = says.writes.files; loans = says.writes.loans };
}

-- an answer was said, and then something is left
pub says_leaving : {said : Answer} {old new : CallSeen} {status : Status} (left : Left) → SaysAnswer said old new status → SaysAnswer said old (with_left left new) status
says_leaving left says = record {
  gives = says.gives;
  ends = says.ends;
  writes = record { rose = says.writes.rose; exact = says.writes.exact; keeps = says.writes.keeps; files = says.writes.files; loans = says.writes.loans };
}

-- what is left of a refusal is left still, where its part of what is left stays
pub refuses_leaving : (left behind : Left) (out' : OutputSeen) (status : Status) → behind.refusal ≡ left.refusal → LeavesRefusal left out' status → LeavesRefusal behind out' status
refuses_leaving left behind out' status same refuses = λ refusing. let r = refuses refusing in (r.0, same ∙ r.1, r.2)
