-- What a read of a file leaves, and why a call stops by it.
use Rattle.std.proofs.Common.{◌≡◌, ◌≤◌, ◌∙◌, ℕ, Bool, List, Option, Result, Ok, Err, refl, sym, subst, arith}
use Rattle.ps_bench_cover.specs.Leaving.{Leaves, LeavesOutput, Sides, Stays, sides}
use Rattle.ps_bench_frame.specs.Ending.{IsUnread}
use Rattle.ps_bench_frame.specs.declared.ending.Stop.{Stop}
use Rattle.ps_bench_frame.specs.declared.ending.Stop.TheVariants.{NoMemory, UnreadCases, Unwritten}
use Rattle.ps_outside.specs.Outside.{Rose}
use Rattle.ps_outside.specs.declared.reading.ReadFail.{ReadFail}
use Rattle.ps_outside.specs.declared.reading.ReadFail.TheVariants.{Fault, Memory}
use Rattle.ps_bench_report.specs.Running.{ReadsFile, stop_by}

-- ---- Facts of their own: a tactic in a function reads all that is known there.

pub le_two : (a b c : ℕ) → a ≤ b → b ≤ c → a ≤ c
le_two a b c one two = omega (arith, one, two)

no_more : (n : ℕ) → n ≤ n
no_more n = omega arith

pub same_two : (a b c : Bool) → b ≡ a → c ≡ b → c ≡ a
same_two a b c one two = two ∙ one

memory_read : {P : Type 0} → IsUnread NoMemory → P
memory_read is = cc

memory_written : {P : Type 0} → NoMemory ≡ Unwritten → P
memory_written is = cc

pub cases_written : (place : ℕ) → UnreadCases place ≡ Unwritten → ⊥
cases_written place is = cc

-- an error that is another's is it
pub of_err : {X E : Type 0} (e other : E) → ◌≡◌ {A = Result X E} (Err e) (Err other) → e ≡ other
of_err e other is = cc

-- ---- What a read leaves.

-- the file was read
pub read_done : {X : Type 0} (name : List ℕ) (t t' : Bool) (h h' : List ℕ → Option (List ℕ)) (f f' : List ℕ → ℕ) (x : X) →
    t' ≡ t → h' ≡ h → ((other : List ℕ) → f other ≤ f' other) → ReadsFile name t t' h h' f f' (Ok x)
read_done name t t' h h' f f' x reading kept reads = record { reading = reading; kept = kept; reads = reads; fault = λ is. cc }

-- it was not
pub read_failed : {X : Type 0} (name : List ℕ) (t t' : Bool) (h h' : List ℕ → Option (List ℕ)) (f f' : List ℕ → ℕ) (fail : ReadFail) →
    t' ≡ t → h' ≡ h → ((other : List ℕ) → f other ≤ f' other) → (fail ≡ Fault → Rose (f name) (f' name)) →
    ReadsFile {X = X} name t t' h h' f f' (Err fail)
read_failed name t t' h h' f f' fail reading kept reads rose = record {
  reading = reading;
  kept = kept;
  reads = reads;
  fault = λ is. rose (of_err fail Fault is);
}

-- beside an output to which nothing is written
pub read_stays : {X : Type 0} (name : List ℕ) (t t' : Bool) (h h' : List ℕ → Option (List ℕ)) (f f' : List ℕ → ℕ) (telling : Bool) (writes : ℕ)
    (ended : Result X ReadFail) → ReadsFile name t t' h h' f f' ended → Stays (sides t h f telling writes) (sides t' h' f' telling writes)
read_stays name t t' h h' f f' telling writes ended one = record {
  reading = one.reading;
  kept = one.kept;
  reads = one.reads;
  telling = refl;
  writes = no_more writes;
}

-- ---- What a call leaves that stops.

-- if memory runs out
pub memory_leaves : {X : Type 0} (R : Type 0) (a b : Sides) → Stays a b → Leaves {X = X} R a b (Err NoMemory)
memory_leaves R a b stays = record {
  stays = stays;
  unread = λ is. memory_read is;
  unwritten = λ is. memory_written (of_err NoMemory Unwritten is);
}

-- by a read that failed
pub unread_leaves : {X : Type 0} (R : Type 0) (a b : Sides) (unread stop : Stop) (fail : ReadFail) → stop ≡ stop_by unread fail →
    (unread ≡ Unwritten → ⊥) → Stays a b → (fail ≡ Fault → R) → Leaves {X = X} R a b (Err stop)
unread_leaves R a b unread stop Fault is apart stays rose = record {
  stays = stays;
  unread = λ read. rose refl;
  unwritten = λ at. absurd (apart (sym is ∙ of_err stop Unwritten at));
}
unread_leaves {X = X} R a b unread stop Memory is apart stays rose =
    subst (λ (s : Stop). Leaves {X = X} R a b (Err s)) (sym is) (memory_leaves R a b stays)

-- ---- What a call leaves that reads no file: all was written, or not all could be, or nothing was if memory runs out.

unwritten_read : {P : Type 0} → IsUnread Unwritten → P
unwritten_read is = cc

pub output_done : {X : Type 0} (t t' : Bool) (w w' : ℕ) (x : X) → t' ≡ t → w ≤ w' → LeavesOutput t t' w w' (Ok x)
output_done t t' w w' x tells counts = record { telling = tells; writes = counts; read = tt; unwritten = λ is. cc }

pub output_unwritten : {X : Type 0} (t t' : Bool) (w w' : ℕ) → t' ≡ t → w ≤ w' → Rose w w' → LeavesOutput {X = X} t t' w w' (Err Unwritten)
output_unwritten t t' w w' tells counts rose = record {
  telling = tells;
  writes = counts;
  read = λ is. unwritten_read is;
  unwritten = λ is. rose;
}

pub output_short : {X : Type 0} (t : Bool) (w : ℕ) → LeavesOutput {X = X} t t w w (Err NoMemory)
output_short t w = record {
  telling = refl;
  writes = no_more w;
  read = λ is. memory_read is;
  unwritten = λ is. memory_written (of_err NoMemory Unwritten is);
}
