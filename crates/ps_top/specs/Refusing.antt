-- How a call ends that gets no text, or no application of one.
use Rattle.std.specs.Prelude.{◌≡◌, ◌⊎◌, ℕ, List, Some, Result, Err, IsTrue}
use Rattle.ps_base.specs.declared.failing.Fail.{Fail}
use Rattle.ps_base.specs.declared.failing.Fail.TheVariants.{Memory as NoneForRules, Refused as RefusedByRules}
use Rattle.ps_base.specs.declared.failing.Refusal.{Refusal}
use Rattle.ps_report.specs.Short.{refusal_text}
use Rattle.ps_accepted.specs.Source.{Reading}
use Rattle.ps_accepted.specs.Source.Reading.{is_refused}
use Rattle.ps_outside.specs.declared.text_fail.TextFail.{TextFail}
use Rattle.ps_outside.specs.declared.text_fail.TextFail.TheVariants.{Memory as NoMemory, Fault as IsFault}
use Rattle.ps_outside.specs.declared.text_fail.TextFail.TheVariants.{Refused as IsRefused}
use Rattle.ps_top.specs.Asking.{Worked, worked}
use Rattle.ps_top.specs.Calls.{CallSeen, LeavesRefusal, Passes, ReadsName, SaysAnswer}
use Rattle.ps_top.specs.Program.{answer}
use Rattle.ps_top.specs.declared.Status.{Status}
use Rattle.ps_top.specs.declared.Status.TheVariants.{Refused, ReadFault, Memory}

-- a refusal has its line, with this status; of running out of memory and of a failed read nothing is written, and the status
-- tells of it
abbrev pub Fails : Status → TextFail → (old new : CallSeen) → Status → Type 0
Fails said (IsRefused refusal) old new status = SaysAnswer (answer (refusal_text refusal) said) old new status
Fails said NoMemory old new status = (status ≡ Memory) × (new ≡ old)
Fails said IsFault old new status = (status ≡ ReadFault) × (new ≡ old)

-- a source gives nothing: its refusal has its line, and of running out of memory the status tells
abbrev pub SaysNone : Fail → (old new : CallSeen) → Status → Type 0
SaysNone (RefusedByRules refusal) old new status = SaysAnswer (answer (refusal_text refusal) Refused) old new status
SaysNone NoneForRules old new status = (status ≡ Memory) × Passes old new

-- there are no lines of demands, and why is said and left
abbrev pub SaysWhy : Result (List ℕ) Fail → (old new : CallSeen) → Status → Type 0
SaysWhy lines old new status =
    (why : Fail) × (lines ≡ Err why) × SaysNone why old new status × LeavesRefusal new.left new.out status

-- a call that could not read its source ends so
abbrev pub IsUnread : Status → Type 0
IsUnread status = (status ≡ Memory) ⊎ (status ≡ ReadFault)

-- A name gave no application, by the readings that a source has: memory ran out, or the name could not be read, or
-- the source is refused, its refusal was said and left, and so much is left of the source.
pub data GivesNone (Left : List ℕ → (before work : Worked) → Type 0) (Readings : List ℕ → Reading → Type 0)
    (name : List ℕ) (old new : CallSeen) (status : Status) : Type 0 where
  short : status ≡ Memory → Passes old new → GivesNone Left Readings name old new status
  unread : status ≡ ReadFault → ReadsName name (Unit {0}) old new → GivesNone Left Readings name old new status
  refuses : (mid : CallSeen) (refusal : Refusal) →
      (IsTrue old.files.tells →
      (text : List ℕ) × (old.files.held name ≡ Some text) × Readings text (is_refused refusal)
      × Left text (worked old.left) (worked new.left)) →
      Passes old mid → SaysAnswer (answer (refusal_text refusal) Refused) mid new status →
      LeavesRefusal new.left new.out status →
      GivesNone Left Readings name old new status
