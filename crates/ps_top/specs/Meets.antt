-- What a call does that is to give an answer. `tells` says whether the output tells its bytes: those before and after.
use Rattle.std.specs.Prelude.{◌≡◌, ◌⊎◌, ℕ, Bool, IsTrue, List, ◌++◌, Option}
use Rattle.ps_top.specs.Asking.{Answer, Asking, IsAnswer, AsksFor}
use Rattle.ps_top.specs.declared.Status.{Status}
use Rattle.ps_top.specs.declared.Status.TheVariants.{ReadFault, WriteFault, Memory}

-- the call was cut short
abbrev pub IsCut : Status → Type 0
IsCut status = (status ≡ ReadFault) ⊎ (status ≡ WriteFault) ⊎ (status ≡ Memory)

-- an answer was given: its status, and all of its bytes
pub record AppendsAll (IsRight : Answer → Type 0) (tells : Bool) (before after : List ℕ)
    (status : Status) : Type 0 where
  pub answer : Answer
  pub right : IsRight answer
  pub ended : status ≡ answer.status
  pub appended : IsTrue tells → after ≡ before ++ answer.bytes

-- a beginning of an answer was appended
pub record AppendsPart (IsRight : Answer → Type 0) (tells : Bool) (before after : List ℕ) : Type 0 where
  pub answer : Answer
  pub right : IsRight answer
  pub written : List ℕ
  pub owed : List ℕ
  pub whole : written ++ owed ≡ answer.bytes
  pub appended : IsTrue tells → after ≡ before ++ written

-- nothing was appended
abbrev pub AppendsNothing : Bool → (before after : List ℕ) → Type 0
AppendsNothing tells before after = IsTrue tells → after ≡ before

-- What a call does that is to give one of these answers: all of it, or a beginning where the call was cut short.
pub record Gives (IsRight : Answer → Type 0) (tells : Bool) (before after : List ℕ) (status : Status) : Type 0 where
  pub whole : ¬ IsCut status → AppendsAll IsRight tells before after status
  pub stopped : status ≡ WriteFault → AppendsPart IsRight tells before after
  pub unread : status ≡ ReadFault → AppendsNothing tells before after ⊎ AppendsPart IsRight tells before after
  -- memory runs out only before the first byte
  pub memory : status ≡ Memory → AppendsNothing tells before after

-- What a call does that is asked to say this. `rose` says of which names the count of faults rose.
pub record Meets (asking : Asking) (held : List ℕ → Option (List ℕ)) (rose : List ℕ →
    Type 0) (tells : Bool) (before after : List ℕ) (status : Status) : Type 0 where
  pub gives : Gives (IsAnswer asking held) tells before after status
  pub read_fault : status ≡ ReadFault → (name : List ℕ) × AsksFor asking held name × rose name
