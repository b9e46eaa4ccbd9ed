-- What a command leaves of a call, put together from its parts.
use Rattle.std.proofs.Common.{◌≡◌, ◌≢◌, ◌≤◌, ◌+◌, ◌∙◌, ◌⊎◌, ◌∷◌, [], ℕ, zero, suc, Bool, List, Any, Result, Ok, Err, refl, sym, ap, subst, inl, inr, arith}
use Rattle.std.specs.Prelude.{IfErr, IsErrOf, ◌<◌, slice_index_or}
use Rattle.ps_outside.specs.Outside.{Rose}
use Rattle.ps_bench_frame.proofs.Stopped.{rose_since}
use Rattle.ps_bench_frame.specs.Answering.{Ends, WritesEnd, end_of}
use Rattle.ps_bench_frame.specs.Ending.{IsUnread}
use Rattle.ps_bench_frame.specs.Leaving.{Leaves, OnlyReads, StopsReading}
use Rattle.ps_bench_frame.specs.Seen.{CallSeen, FilesSeen, KeepsCall, KeepsFiles, KeepsOutput, NameRose, OutputSeen, Quiet, Texts, texts_of}
use Rattle.ps_bench_frame.specs.declared.answering.Answer.{Answer}
use Rattle.ps_bench_frame.specs.declared.ending.Status.{Status}
use Rattle.ps_bench_frame.specs.declared.ending.Stop.{Stop}
use Rattle.ps_bench_frame.specs.declared.ending.Stop.TheVariants.{Unwritten, NoMemory}

-- ---- what stays

-- nothing was done
pub quiet_same : (a : CallSeen) → Quiet a a
quiet_same a = record {
  files = record { counts = λ name. omega arith; held = refl; telling = refl };
  out = refl;
  loans = refl;
}

-- one after the other
pub quiet_both : (a b c : CallSeen) → Quiet a b → Quiet b c → Quiet a c
quiet_both a b c one two = record {
  files = record {
    counts = λ name. omega (arith, one.files.counts name, two.files.counts name);
    held = two.files.held ∙ one.files.held;
    telling = two.files.telling ∙ one.files.telling;
  };
  out = two.out ∙ one.out;
  loans = two.loans ∙ one.loans;
}

-- what was heard changes nothing of it
pub quiet_heard : (a b c : CallSeen) → Quiet a b → c ≡ b → Quiet a c
quiet_heard a b c quiet is = subst (λ (s : CallSeen). Quiet a s) (sym is) quiet

-- the texts that it can read stay
pub texts_stay : (a b : CallSeen) → Quiet a b → texts_of b ≡ texts_of a
texts_stay a b quiet = λ i. record { tells = quiet.files.telling i; held = quiet.files.held i }

-- ---- names

-- of a list that begins with another name
pub any_later : {P : List ℕ → Type 0} (name : List ℕ) (names : List (List ℕ)) → Any P names → Any P (name ∷ names)
any_later name names any = (suc any.0, any.1, omega (arith, any.2), any.3, any.4)

-- the first of a list
pub any_first : {P : List ℕ → Type 0} (name : List ℕ) (names : List (List ℕ)) → P name → Any P (name ∷ names)
any_first name names p = (0, name, omega arith, refl, p)

-- what rose later rose since the beginning
rose_names : (a b c : CallSeen) (names : List (List ℕ)) → Quiet a b → Any (NameRose b c) names → Any (NameRose a c) names
rose_names a b c names quiet any =
    (any.0, any.1, any.2, any.3, rose_since (a.files.faults any.1) (b.files.faults any.1) (c.files.faults any.1) (quiet.files.counts any.1) any.4)

-- ---- what only reads

-- all was done
pub reads_done : {X : Type 0} (names : List (List ℕ)) (a b : CallSeen) (x : X) → Quiet a b → OnlyReads names a b (Ok x)
reads_done names a b x quiet = record { quiet = quiet; stops = tt }

-- of one name alone, from what is known of its count
pub reads_one : {X : Type 0} (name : List ℕ) (a b : CallSeen) (ended : Result X Stop) → Quiet a b →
    IfErr ended (λ stop. IsUnread stop → NameRose a b name) → IfErr ended (λ stop. stop ≢ Unwritten) → OnlyReads (name ∷ []) a b ended
reads_one name a b (Ok x) quiet unread no_write = record { quiet = quiet; stops = tt }
reads_one name a b (Err stop) quiet unread no_write = record {
  quiet = quiet;
  stops = record { unread = λ is. any_first name [] (unread is); no_write = no_write };
}

-- memory ran out
pub reads_none : {X : Type 0} (names : List (List ℕ)) (a b : CallSeen) → Quiet a b → OnlyReads {X = X} names a b (Err NoMemory)
reads_none names a b quiet = record { quiet = quiet; stops = record { unread = λ is. cc; no_write = λ is. cc } }

-- all was done, or memory ran out
pub reads_memory : {X : Type 0} (names : List (List ℕ)) (a b : CallSeen) (ended : Result X Stop) → Quiet a b → IfErr ended (λ stop. stop ≡ NoMemory) →
    OnlyReads names a b ended
reads_memory names a b (Ok x) quiet none = reads_done names a b x quiet
reads_memory {X} names a b (Err stop) quiet none =
    subst (λ (s : Stop). OnlyReads {X = X} names a b (Err s)) (sym none) (reads_none names a b quiet)

-- a call stops as another one did, after what only read
pub stops_behind : (names : List (List ℕ)) (a b c : CallSeen) (stop : Stop) → Quiet a b → StopsReading names b c stop → StopsReading names a c stop
stops_behind names a b c stop quiet stops = record {
  unread = λ is. rose_names a b c names quiet (stops.unread is);
  no_write = stops.no_write;
}

-- the same of one name more
pub stops_later : (name : List ℕ) (names : List (List ℕ)) (a b : CallSeen) (stop : Stop) → StopsReading names a b stop → StopsReading (name ∷ names) a b stop
stops_later name names a b stop stops = record {
  unread = λ is. any_later name names (stops.unread is);
  no_write = stops.no_write;
}

-- where the first of names alone was read
pub first_of : {P : List ℕ → Type 0} (name : List ℕ) (names : List (List ℕ)) → Any P (name ∷ []) → P name
first_of {P} name names any = at any.0 any.1 any.2 any.3 any.4
  where
    at : (k : ℕ) (other : List ℕ) → k < 1 → slice_index_or (name ∷ []) k other ≡ other → P other → P name
    at zero other lt is p = subst P (sym is) p
    at (suc k) other lt is p = absurd (omega (arith, lt))

pub stops_first : (name : List ℕ) (names : List (List ℕ)) (a b : CallSeen) (stop : Stop) → StopsReading (name ∷ []) a b stop → StopsReading (name ∷ names) a b stop
stops_first name names a b stop stops = record {
  unread = λ is. any_first name names (first_of name names (stops.unread is));
  no_write = stops.no_write;
}

-- after the first of names was read, and nothing else
pub reads_after : {X : Type 0} (name : List ℕ) (names : List (List ℕ)) (a b c : CallSeen) (ended : Result X Stop) → Quiet a b → OnlyReads names b c ended →
    OnlyReads (name ∷ names) a c ended
reads_after name names a b c (Ok x) quiet reads = record { quiet = quiet_both a b c quiet reads.quiet; stops = tt }
reads_after name names a b c (Err stop) quiet reads = record {
  quiet = quiet_both a b c quiet reads.quiet;
  stops = stops_later name names a c stop (stops_behind names a b c stop quiet reads.stops);
}

-- ---- the end of a call

files_same : (a b : FilesSeen) → b ≡ a → KeepsFiles a b
files_same a b is =
    let count = λ (name : List ℕ). ap (λ (f : FilesSeen). f.faults name) is in
    record {
      counts = λ name. omega (arith, count name);
      held = ap (λ (f : FilesSeen). f.held) is;
      telling = ap (λ (f : FilesSeen). f.tells) is;
    }

-- what ended is what the call came to, or it could not be written, or memory ran out
ends_as : (came : Result Answer Stop) (tells : Bool) (before after : List ℕ) (ended : Result Status Stop) → Ends came tells before after ended →
    (ended ≡ end_of came) ⊎ ((ended ≡ Err Unwritten) ⊎ (ended ≡ Err NoMemory))
ends_as came tells before after ended (inl (inl whole)) = inl whole.0
ends_as came tells before after ended (inl (inr part)) = inr (inl part.0)
ends_as came tells before after ended (inr none) = inr (inr none.0)

unread_end : (names : List (List ℕ)) (a b c : CallSeen) (came : Result Answer Stop) → OnlyReads names a b came → c.files ≡ b.files →
    IfErr (end_of came) (λ stop. IsUnread stop → Any (NameRose a c) names)
unread_end names a b c (Ok answer) reads stay = tt
unread_end names a b c (Err stop) reads stay = λ is.
    subst (λ (f : FilesSeen). Any (λ name. Rose (a.files.faults name) (f.faults name)) names) (sym stay) (reads.stops.unread is)

-- what came of reading alone was not stopped by a write
not_written : (names : List (List ℕ)) (a b : CallSeen) (came : Result Answer Stop) → OnlyReads names a b came → ¬ IsErrOf (end_of came) Unwritten
not_written names a b (Ok answer) reads = λ is. cc
not_written names a b (Err stop) reads = λ is. reads.stops.no_write cc

-- What a whole call leaves that only reads, and then ends.
pub finished : (names : List (List ℕ)) (a b c : CallSeen) (came : Result Answer Stop) (tells : Bool) (before after : List ℕ) (ended : Result Status Stop) →
    OnlyReads names a b came → Ends came tells before after ended → WritesEnd (end_of came) b c ended → Leaves names a c ended
finished names a b c came tells before after ended reads ends writes =
    let quiet = reads.quiet in
    let count : b.out.faults ≡ a.out.faults = ap (λ (o : OutputSeen). o.faults) quiet.out in
    let stay = files_same b.files c.files writes.files in
    record {
      keeps = record {
        files = record {
          counts = λ name. omega (arith, quiet.files.counts name, stay.counts name);
          held = stay.held ∙ quiet.files.held;
          telling = stay.telling ∙ quiet.files.telling;
        };
        out = record {
          counts = omega (arith, count, writes.keeps.counts);
          telling = writes.keeps.telling ∙ ap (λ (o : OutputSeen). o.tells) quiet.out;
        };
        loans = writes.loans ∙ quiet.loans;
      };
      unread = by (ends_as came tells before after ended ends);
      unwritten = λ is. subst (λ (n : ℕ). Rose n c.out.faults) count (writes.unwritten is (not_written names a b came reads));
    }
  where
    IsTold : Result Status Stop → Type 0
    IsTold e = IfErr e (λ stop. IsUnread stop → Any (NameRose a c) names)

    by : (ended ≡ end_of came) ⊎ ((ended ≡ Err Unwritten) ⊎ (ended ≡ Err NoMemory)) → IsTold ended
    by (inl is) = subst IsTold (sym is) (unread_end names a b c came reads writes.files)
    by (inr (inl is)) = subst IsTold (sym is) (λ unread. cc)
    by (inr (inr is)) = subst IsTold (sym is) (λ unread. cc)
