-- How a call comes to meet what it is asked to say.
use Rattle.std.proofs.Common.{◌≡◌, ◌≤◌, ℕ, Bool, IsTrue, List, ◌++◌, Option, Some, take, drop, refl, ap, ◌∙◌, inl, inr, ⊎_elim, arith, append_assoc}
use Rattle.std.proofs.lemmas.List.{take-append-drop}
use Rattle.ps_outside.specs.Outside.{Rose}
use Rattle.ps_top.specs.Asking.{Answer, Asking, IsAnswer}
use Rattle.ps_top.specs.Asking.Asking.{Says, Asks}
use Rattle.ps_top.specs.Meets.{IsCut, AppendsPart, Gives, Meets}
use Rattle.ps_top.specs.Resting.{behind}
use Rattle.ps_top.specs.declared.Status.{Status}
use Rattle.ps_top.specs.declared.Status.TheVariants.{ReadFault, WriteFault, Memory}

-- a count that rose in a part of a call rose in the call
pub rose_earlier : (before mid after : ℕ) → before ≤ mid → Rose mid after → Rose before after
rose_earlier before mid after le rose = ⊎_elim (λ more. inl (omega (arith, more, le))) inr rose

pub rose_later : (before mid after : ℕ) → mid ≤ after → Rose before mid → Rose before after
rose_later before mid after le rose = ⊎_elim (λ more. inl (omega (arith, more, le))) (λ last. inr (omega (arith, last, le))) rose

-- what begins one of these answers begins one of more
part_wider : {P Q : Answer → Type 0} {tells : Bool} {before after : List ℕ} → ((answer : Answer) → P answer → Q answer) → AppendsPart P tells before after →
    AppendsPart Q tells before after
part_wider wider part =
    record { answer = part.answer; right = wider part.answer part.right; written = part.written; owed = part.owed; whole = part.whole; appended = part.appended }

-- what gives one of these answers gives one of more
pub gives_wider : {P Q : Answer → Type 0} {tells : Bool} {before after : List ℕ} {status : Status} → ((answer : Answer) → P answer → Q answer) →
    Gives P tells before after status → Gives Q tells before after status
gives_wider wider gives = record {
  whole = λ not_cut. let all = gives.whole not_cut in record { answer = all.answer; right = wider all.answer all.right; ended = all.ended; appended = all.appended };
  stopped = λ is. part_wider wider (gives.stopped is);
  unread = λ is. ⊎_elim inl (λ part. inr (part_wider wider part)) (gives.unread is);
  memory = gives.memory;
}

-- memory runs out, and nothing was written
pub memory_meets : (asking : Asking) (held : List ℕ → Option (List ℕ)) (rose : List ℕ → Type 0) (tells : Bool) (taken : List ℕ) → Meets asking held rose tells taken taken Memory
memory_meets asking held rose tells taken = record {
  gives = record { whole = λ not_cut. absurd (not_cut (inr (inr refl))); stopped = λ is. cc; unread = λ is. cc; memory = λ is on. refl };
  read_fault = λ is. cc;
}

-- the text that is asked for could not be read, and nothing was written
pub unread_meets : (name : List ℕ) (next : List ℕ → Asking) (held : List ℕ → Option (List ℕ)) (rose : List ℕ → Type 0) (tells : Bool) (taken : List ℕ) → rose name →
    Meets (Asks name next) held rose tells taken taken ReadFault
unread_meets name next held rose tells taken failed = record {
  gives = record { whole = λ not_cut. absurd (not_cut (inl refl)); stopped = λ is. cc; unread = λ is. inl (λ on. refl); memory = λ is. cc };
  read_fault = λ is. (name, inl refl, failed);
}

-- the answer was given
pub said_meets : (said : Answer) (held : List ℕ → Option (List ℕ)) (rose : List ℕ → Type 0) (tells : Bool) (before after : List ℕ) (status : Status) →
    ¬ (status ≡ ReadFault) → Gives (λ answer. answer ≡ said) tells before after status → Meets (Says said) held rose tells before after status
said_meets said held rose tells before after status no_read gives = record { gives = gives; read_fault = λ is. absurd (no_read is) }

-- what was read while it was answered was given
pub streamed_meets : (name text : List ℕ) (next : List ℕ → Asking) (P : Answer → Type 0) (held : List ℕ → Option (List ℕ)) (rose : List ℕ → Type 0) (tells : Bool)
    (before after : List ℕ) (status : Status) → held name ≡ Some text → (status ≡ ReadFault → rose name) → ((answer : Answer) → P answer → IsAnswer (next text) held answer) →
    Gives P tells before after status → Meets (Asks name next) held rose tells before after status
streamed_meets name text next P held rose tells before after status is rose_if right gives = record {
  gives = gives_wider (λ answer r. (text, is, right answer r)) gives;
  read_fault = λ e. (name, inl refl, rose_if e);
}

-- a write of the whole answer stopped
pub stopped_in : (answer : Answer) (tells : Bool) (before after : List ℕ) (n : ℕ) → (IsTrue tells → after ≡ before ++ take n answer.bytes) →
    Gives (λ given. given ≡ answer) tells before after WriteFault
stopped_in answer tells before after n appended = record {
  whole = λ not_cut. absurd (not_cut (inr (inl refl)));
  stopped = λ _. record { answer = answer; right = refl; written = take n answer.bytes; owed = drop n answer.bytes; whole = take-append-drop n answer.bytes; appended = appended };
  unread = λ e. cc;
  memory = λ e. cc;
}

-- the whole answer was written
pub all_given : (P : Answer → Type 0) (answer : Answer) (tells : Bool) (before after : List ℕ) → ¬ IsCut answer.status → P answer →
    (IsTrue tells → after ≡ before ++ answer.bytes) → Gives P tells before after answer.status
all_given P answer tells before after no_cut right appended = record {
  whole = λ _. record { answer = answer; right = right; ended = refl; appended = appended };
  stopped = λ e. absurd (no_cut (inr (inl e)));
  unread = λ e. absurd (no_cut (inl e));
  memory = λ e. absurd (no_cut (inr (inr e)));
}

-- ---- what was written before

-- the rest of an answer was given after what was written of it
pub given_behind : (P : Answer → Type 0) (said : Answer) (bytes : List ℕ) (tells : Bool) (before mid after : List ℕ) (status : Status) → P (behind bytes said) →
    (IsTrue tells → mid ≡ before ++ bytes) → Gives (λ given. given ≡ said) tells mid after status → ¬ (status ≡ Memory) → ¬ (status ≡ ReadFault) → Gives P tells before after status
given_behind P said bytes tells before mid after status right wrote gives no_memory no_read = record {
  whole = λ not_cut. let rest = gives.whole not_cut in record {
    answer = behind bytes said;
    right = right;
    ended = rest.ended ∙ ap (λ (a : Answer). a.status) rest.right;
    appended = λ on. rest.appended on ∙ ap (λ (a : Answer). mid ++ a.bytes) rest.right ∙ ap (λ (t : List ℕ). t ++ said.bytes) (wrote on) ∙ append_assoc before bytes said.bytes;
  };
  stopped = λ is. let part = gives.stopped is in record {
    answer = behind bytes said;
    right = right;
    written = bytes ++ part.written;
    owed = part.owed;
    whole = append_assoc bytes part.written part.owed ∙ ap (λ (t : List ℕ). bytes ++ t) (part.whole ∙ ap (λ (a : Answer). a.bytes) part.right);
    appended = λ on. part.appended on ∙ ap (λ (t : List ℕ). t ++ part.written) (wrote on) ∙ append_assoc before bytes part.written;
  };
  unread = λ is. absurd (no_read is);
  memory = λ is. absurd (no_memory is);
}

-- a beginning was given, and then a write stopped
pub part_given : (P : Answer → Type 0) (tells : Bool) (before after : List ℕ) → AppendsPart P tells before after → Gives P tells before after WriteFault
part_given P tells before after part = record {
  whole = λ not_cut. absurd (not_cut (inr (inl refl)));
  stopped = λ _. part;
  unread = λ e. cc;
  memory = λ e. cc;
}

-- a beginning was given, and then a read failed
pub part_unread : (P : Answer → Type 0) (tells : Bool) (before after : List ℕ) → AppendsPart P tells before after → Gives P tells before after ReadFault
part_unread P tells before after part = record {
  whole = λ not_cut. absurd (not_cut (inl refl));
  stopped = λ e. cc;
  unread = λ _. inr part;
  memory = λ e. cc;
}
