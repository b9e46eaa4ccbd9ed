-- What a call leaves after another.
use Rattle.std.proofs.Common.{◌≡◌, ◌≤◌, ◌∙◌, ℕ, Bool, List, [], ◌∷◌, Any, Ok, Err, Result, refl, ap, arith}
use Rattle.std.proofs.lemmas.Result.{IfErr-weaker}
use Rattle.ps_base.specs.declared.failing.Refusal.{Refusal}
use Rattle.ps_bench_frame.proofs.Stopped.{rose_since}
use Rattle.ps_bench_frame.specs.Ending.{IsUnread}
use Rattle.ps_bench_frame.specs.declared.ending.Stop.{Stop}
use Rattle.ps_bench_frame.specs.declared.ending.Input.{Input as InputOf}
use Rattle.ps_bench_frame.specs.declared.ending.Input.TheVariants.{Trace}
use Rattle.ps_bench_frame.specs.declared.ending.InputStop.TheVariants.{Refused, Unread}
use Rattle.ps_bench_frame.specs.declared.ending.Stop.TheVariants.{Input, NoMemory, Unwritten}
use Rattle.ps_outside.specs.Outside.{Rose}
use Rattle.ps_bench_campaign.specs.Leaving.{Leaves, LeavesOutput, Sides, Stays, sides}

-- ---- Counts, and how calls stop, as facts of their own: a tactic in a function reads all that is known there.

pub le_two : (a b c : ℕ) → a ≤ b → b ≤ c → a ≤ c
le_two a b c one two = omega (arith, one, two)

pub no_more : (n : ℕ) → n ≤ n
no_more n = omega arith

-- a stop that is another's is it
pub of_err : {X : Type 0} (r : Result X Stop) (stop other : Stop) → r ≡ Err stop → r ≡ Err other → stop ≡ other
of_err r stop other one two = cc

pub memory_read : {P : Type 0} → IsUnread NoMemory → P
memory_read is = cc

pub memory_written : {X P : Type 0} (r : Result X Stop) → r ≡ Err NoMemory → r ≡ Err Unwritten → P
memory_written r one two = cc

pub done_written : {X P : Type 0} (r : Result X Stop) (x : X) → r ≡ Ok x → r ≡ Err Unwritten → P
done_written r x one two = cc

-- of a stop by itself
pub memory_is : {P : Type 0} → NoMemory ≡ Unwritten → P
memory_is is = cc

pub unwritten_read : {P : Type 0} → IsUnread Unwritten → P
unwritten_read is = cc

pub input_unread_is : {P : Type 0} (input : InputOf) → Input (Unread input) ≡ Unwritten → P
input_unread_is input is = cc

pub input_unread_written : {X P : Type 0} (r : Result X Stop) (input : InputOf) → r ≡ Err (Input (Unread input)) → r ≡ Err Unwritten → P
input_unread_written r input one two = cc

pub input_unread_refused : {P : Type 0} (refusal : Refusal) → Input (Unread Trace) ≡ Input (Refused Trace refusal) → P
input_unread_refused refusal is = cc

pub memory_refused : {P : Type 0} (refusal : Refusal) → NoMemory ≡ Input (Refused Trace refusal) → P
memory_refused refusal is = cc

-- ---- What is left.

-- files were read again
pub read_on : (reads reads' reads'' : List ℕ → ℕ) (t t' : Bool) (w w' : ℕ) → Stays (sides reads t w) (sides reads' t' w') →
    ((other : List ℕ) → reads' other ≤ reads'' other) → Stays (sides reads t w) (sides reads'' t' w')
read_on reads reads' reads'' t t' w w' stays on = record {
  reads = λ other. le_two (reads other) (reads' other) (reads'' other) (stays.reads other) (on other);
  telling = stays.telling;
  writes = stays.writes;
}

-- files were read, before something else
pub read_first : (reads mid reads' : List ℕ → ℕ) (t t' : Bool) (w w' : ℕ) → ((other : List ℕ) → reads other ≤ mid other) →
    ((other : List ℕ) → mid other ≤ reads' other) → t' ≡ t → w ≤ w' → Stays (sides reads t w) (sides reads' t' w')
read_first reads mid reads' t t' w w' first on tells counts = record {
  reads = λ other. le_two (reads other) (mid other) (reads' other) (first other) (on other);
  telling = tells;
  writes = counts;
}

-- something was written
pub write_on : (reads reads' : List ℕ → ℕ) (t t' t'' : Bool) (w w' w'' : ℕ) → Stays (sides reads t w) (sides reads' t' w') →
    t'' ≡ t' → w' ≤ w'' → Stays (sides reads t w) (sides reads' t'' w'')
write_on reads reads' t t' t'' w w' w'' stays tells on = record {
  reads = stays.reads;
  telling = tells ∙ stays.telling;
  writes = le_two w w' w'' stays.writes on;
}

-- a call stops so
pub stopped : {X : Type 0} (R : Type 0) (a b : Sides) (stop : Stop) → Stays a b → (IsUnread stop → R) →
    (stop ≡ Unwritten → Rose a.writes b.writes) → Leaves {X = X} R a b (Err stop)
stopped R a b stop stays unread unwritten = record {
  stays = stays;
  unread = unread;
  unwritten = λ is. let at : stop ≡ Unwritten = cc in unwritten at;
}

-- a call stops if memory runs out
pub no_memory : {X : Type 0} (R : Type 0) (a b : Sides) → Stays a b → Leaves {X = X} R a b (Err NoMemory)
no_memory R a b stays = record {
  stays = stays;
  unread = λ is. memory_read is;
  unwritten = λ is. cc;
}

-- all was done
pub done : {X : Type 0} (R : Type 0) (a b : Sides) (x : X) → Stays a b → Leaves R a b (Ok x)
done R a b x stays = record { stays = stays; unread = tt; unwritten = λ is. cc }

-- of a call that reads no file: all was written, or not all could be
pub output_done : {X : Type 0} (t t' : Bool) (w w' : ℕ) (x : X) → t' ≡ t → w ≤ w' → LeavesOutput t t' w w' (Ok x)
output_done t t' w w' x tells counts = record { telling = tells; writes = counts; read = tt; unwritten = λ is. cc }

pub output_unwritten : {X : Type 0} (t t' : Bool) (w w' : ℕ) → t' ≡ t → w ≤ w' → Rose w w' → LeavesOutput {X = X} t t' w w' (Err Unwritten)
output_unwritten t t' w w' tells counts rose = record { telling = tells; writes = counts; read = λ is. cc; unwritten = λ is. rose }

-- one after the other
pub both : (a b c : Sides) → Stays a b → Stays b c → Stays a c
both a b c one two = record {
  reads = λ other. omega (arith, one.reads other, two.reads other);
  telling = two.telling ∙ one.telling;
  writes = omega (arith, one.writes, two.writes);
}

-- after what changes nothing else
pub behind : {X : Type 0} (a b c : Sides) (ended : Result X Stop) (R S : Type 0) → Stays a b → Leaves R b c ended → (R → S) → Leaves S a c ended
behind a b c ended R S before leaves on = record {
  stays = both a b c before leaves.stays;
  unread = IfErr-weaker ended (λ stop. IsUnread stop → R) (λ stop. IsUnread stop → S) (λ stop rises is. on (rises is)) leaves.unread;
  unwritten = λ is. rose_since a.writes b.writes c.writes before.writes (leaves.unwritten is);
}

-- a call that reads no file, after one that left this
pub written_behind : {X : Type 0} (R : Type 0) (reads reads' : List ℕ → ℕ) (t t' t'' : Bool) (w w' w'' : ℕ) (ended : Result X Stop) →
    Stays (sides reads t w) (sides reads' t' w') → LeavesOutput t' t'' w' w'' ended → Leaves R (sides reads t w) (sides reads' t'' w'') ended
written_behind R reads reads' t t' t'' w w' w'' ended before leaves = record {
  stays = record { reads = before.reads; telling = leaves.telling ∙ before.telling; writes = omega (arith, before.writes, leaves.writes) };
  unread = IfErr-weaker ended (λ stop. ¬ IsUnread stop) (λ stop. IsUnread stop → R) (λ stop read is. absurd (read is)) leaves.read;
  unwritten = λ is. rose_since w w' w'' before.writes (leaves.unwritten is);
}

-- a call stops as another one did
pub passed : {X Y : Type 0} (R : Type 0) (a b : Sides) (stop : Stop) → Leaves {X = X} R a b (Err stop) → Leaves {X = Y} R a b (Err stop)
passed R a b stop leaves = record {
  stays = leaves.stays;
  unread = leaves.unread;
  unwritten = λ is. let same_stop : stop ≡ Unwritten = cc in leaves.unwritten (ap Err same_stop);
}

-- the count of the trace rose since before, of the two files
pub trace_rose : (reads mid reads' : List ℕ → ℕ) (app trace : List ℕ) → reads trace ≤ mid trace → Rose (mid trace) (reads' trace) →
    Any (λ (name : List ℕ). Rose (reads name) (reads' name)) (app ∷ trace ∷ [])
trace_rose reads mid reads' app trace on rose = (1, trace, omega arith, refl, rose_since (reads trace) (mid trace) (reads' trace) on rose)

-- that of the application rose
pub app_rose : (reads reads' : List ℕ → ℕ) (app trace : List ℕ) → Rose (reads app) (reads' app) →
    Any (λ (name : List ℕ). Rose (reads name) (reads' name)) (app ∷ trace ∷ [])
app_rose reads reads' app trace rose = (0, app, omega arith, refl, rose)
