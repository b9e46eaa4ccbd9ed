-- What the calls of all commands promise alike, of a call of the program as it is found and as it is left.
use Rattle.std.specs.Prelude.{◌≡◌, ◌≢◌, ◌≤◌, ◌⊎◌, ◌++◌, ℕ, Bool, IsTrue, List, Option, Some, Result, Any}
use Rattle.ps_base.specs.declared.failing.Refusal.{Refusal}
use Rattle.ps_outside.specs.Outside.{CountsStay, Rose}
use Rattle.ps_report.specs.Short.{refusal_text}
use Rattle.ps_runs.specs.Cutting.{TellsFailures}
use Rattle.ps_runs.specs.declared.items.Cut.{Cut}
use Rattle.ps_top.specs.Asking.{Answer, Asking, IsLeftAfter, worked}
use Rattle.ps_top.specs.Meets.{IsCut, AppendsNothing, Gives, Meets}
use Rattle.ps_top.specs.declared.Status.{Status}
use Rattle.ps_top.specs.declared.Status.TheVariants.{Refused, BadInput, ReadFault, WriteFault, Memory}
use Rattle.ps_top.specs.declared.left.Left.{Left}

-- files: whether they tell, what they hold under each name, and the count of failed reads of each name
pub record FilesSeen : Type 0 where
  pub tells : Bool
  pub held : List ℕ → Option (List ℕ)
  pub faults : List ℕ → ℕ

-- an output: whether it tells, the bytes that it took, and its count of failed writes
pub record OutputSeen : Type 0 where
  pub tells : Bool
  pub taken : List ℕ
  pub faults : ℕ

-- the loans by which a call holds the files, the output and what is left of whoever made it
pub record Loans : Type 0 where
  pub files : ℕ
  pub out : ℕ
  pub left : ℕ

-- a call: its files, its output, what is left behind, and the loans by which it holds them
pub record CallSeen : Type 0 where
  pub files : FilesSeen
  pub out : OutputSeen
  pub left : Left
  pub loans : Loans

-- any files, by what they say of themselves
abbrev pub files_seen : {F : Type 0} → (F → Bool) → (F → List ℕ → Option (List ℕ)) → (F → List ℕ → ℕ) → F → FilesSeen
files_seen tells held faults files = record { tells = tells files; held = held files; faults = faults files }

-- any output, by what it says of itself
abbrev pub output_seen : {S : Type 0} → (S → Bool) → (S → List ℕ) → (S → ℕ) → S → OutputSeen
output_seen tells taken faults out = record { tells = tells out; taken = taken out; faults = faults out }

-- ---- what stays

-- what is held stays, whether they tell stays, and no count falls
pub record KeepsFiles (old new : FilesSeen) : Type 0 where
  pub counts : (name : List ℕ) → old.faults name ≤ new.faults name
  pub held : new.held ≡ old.held
  pub telling : new.tells ≡ old.tells

-- whether it tells stays, and the count does not fall
pub record KeepsOutput (old new : OutputSeen) : Type 0 where
  pub counts : old.faults ≤ new.faults
  pub telling : new.tells ≡ old.tells

-- a call keeps its files and its output, and holds them and what is left by the same loans
pub record KeepsCall (old new : CallSeen) : Type 0 where
  pub files : KeepsFiles old.files new.files
  pub out : KeepsOutput old.out new.out
  pub loans : new.loans ≡ old.loans

-- The call went on without a failure: no count changed.
pub record GoesOn (old new : CallSeen) : Type 0 where
  pub reads : CountsStay old.files.faults new.files.faults
  pub writes : new.out.faults ≡ old.out.faults
  pub keeps : KeepsCall old new

-- The call went on without a failure, and wrote nothing: only what is left may differ.
pub record Passes (old new : CallSeen) : Type 0 where
  pub reads : CountsStay old.files.faults new.files.faults
  pub keeps : KeepsFiles old.files new.files
  pub out : new.out ≡ old.out
  pub loans : new.loans ≡ old.loans

-- ---- parts of a call

-- the count of a name rose
abbrev pub NameRose : (old new : CallSeen) → List ℕ → Type 0
NameRose old new name = Rose (old.files.faults name) (new.files.faults name)

-- A name was read, and nothing else was done: where the read failed the name's count rose, and else no count changed.
pub record ReadsName (name : List ℕ) (failed : Type 0) (old new : CallSeen) : Type 0 where
  pub rose : failed → NameRose old new name
  pub exact : ¬ failed → CountsStay old.files.faults new.files.faults
  pub keeps : KeepsFiles old.files new.files
  pub out : new.out ≡ old.out
  pub left : new.left ≡ old.left
  pub loans : new.loans ≡ old.loans

-- Bytes were written, and no file was read: where the write failed the output's count rose, and else it did not change.
pub record Writes (failed : Type 0) (old new : CallSeen) : Type 0 where
  pub rose : failed → Rose old.out.faults new.out.faults
  pub exact : ¬ failed → new.out.faults ≡ old.out.faults
  pub keeps : KeepsOutput old.out new.out
  pub files : new.files ≡ old.files
  pub loans : new.loans ≡ old.loans

-- The items of a trace in this file were done, each with what is written of it; failures show in how that ended.
pub record Streams (file : List ℕ) (old new : CallSeen) (ended : Result (Unit {0}) Cut) : Type 0 where
  pub failures : TellsFailures file old.files.faults new.files.faults old.out.faults new.out.faults ended
  pub held : new.files.held ≡ old.files.held
  pub reading : new.files.tells ≡ old.files.tells
  pub writing : new.out.tells ≡ old.out.tells
  pub left : new.left ≡ old.left
  pub loans : new.loans ≡ old.loans

-- the same call, with something else left behind
abbrev pub with_left : Left → CallSeen → CallSeen
with_left left call = record call { left = left }

-- ---- whole calls

-- Failures are exact, whatever the files and the output tell. A read that failed shows in the status, by a name whose
-- count rose; a write that failed does, by the count of the output; and with any other status no count changed. Where
-- memory ran out nothing was written.
pub record Causes (names : List (List ℕ)) (old new : CallSeen) (status : Status) : Type 0 where
  pub read_fault : status ≡ ReadFault → Any (NameRose old new) names
  pub write_fault : status ≡ WriteFault → Rose old.out.faults new.out.faults
  pub reads_exact : status ≢ ReadFault → CountsStay old.files.faults new.files.faults
  pub writes_exact : status ≢ WriteFault → new.out.faults ≡ old.out.faults
  pub memory : status ≡ Memory → AppendsNothing old.out.tells old.out.taken new.out.taken
  pub keeps : KeepsCall old new

-- the call refuses a text
abbrev pub IsRefusing : Status → Type 0
IsRefusing status = (status ≡ Refused) ⊎ (status ≡ BadInput)

-- What is left where a call refuses a text: the refusal, whose line ends what an output that tells took.
abbrev pub LeavesRefusal : Left → (out : OutputSeen) → Status → Type 0
LeavesRefusal left out status =
    IsRefusing status → (refusal : Refusal) × (left.refusal ≡ Some refusal)
    × (IsTrue out.tells → (front : List ℕ) × (out.taken ≡ front ++ refusal_text refusal))

-- What a call does that is asked to say this, and is given these names of files. Of the texts only files that tell say
-- anything.
pub record Answers (asking : Asking) (names : List (List ℕ)) (old new : CallSeen) (status : Status) : Type 0 where
  pub meets : IsTrue old.files.tells →
      Meets asking old.files.held (NameRose old new) old.out.tells old.out.taken new.out.taken status
  pub leaves : IsTrue old.files.tells → ¬ IsCut status →
      IsLeftAfter asking old.files.held (worked old.left) (worked new.left)
  pub refuses : LeavesRefusal new.left new.out status
  pub causes : Causes names old new status

-- What a call does that says this answer: all of it, or a beginning where a write failed.
pub record SaysAnswer (said : Answer) (old new : CallSeen) (status : Status) : Type 0 where
  pub gives : Gives (λ answer. answer ≡ said) old.out.tells old.out.taken new.out.taken status
  pub ends : (status ≡ said.status) ⊎ (status ≡ WriteFault)
  pub writes : Writes (status ≡ WriteFault) old new
