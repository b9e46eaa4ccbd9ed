-- How a call runs the trace of a name, with whoever performs its items and takes what comes of them.
use Rattle.std.specs.Prelude.{◌≡◌, ◌⊎◌, ℕ, List, Bool, Option, Some, Result, Ok, Err}
use Rattle.ps_base.specs.declared.failing.Refusal.{Refusal}
use Rattle.ps_model.specs.Meaning.{Item}
use Rattle.ps_model.specs.Network.{Network}
use Rattle.ps_report.specs.Short.{refusal_text}
use Rattle.ps_runs.specs.Doing.{DoesItems}
use Rattle.ps_runs.specs.Outcomes.{Outcome}
use Rattle.ps_runs.specs.declared.items.Cut.{Cut}
use Rattle.ps_runs.specs.declared.items.Cut.TheVariants.{Refused, Unread, Unwritten}
use Rattle.ps_trace.specs.Reading.{only_refused}
use Rattle.ps_trace.specs.Scans.{Scans, scans_of}
use Rattle.ps_top.specs.Calls.{CallSeen}
use Rattle.ps_top.specs.Meets.{Gives}
use Rattle.ps_top.specs.Program.{answer}
use Rattle.ps_top.specs.declared.Status.{Status}
use Rattle.ps_top.specs.declared.Status.TheVariants.{BadInput, ReadFault, WriteFault, Memory}

-- The line of a refusal is said after what was written before: all of it, or a beginning where a write failed.
pub record SaysRefusal (refusal : Refusal) (tells : Bool) (before after : List ℕ) (status : Status) : Type 0 where
  pub ends : (status ≡ BadInput) ⊎ (status ≡ WriteFault)
  pub gives : Gives (λ said. said ≡ answer (refusal_text refusal) BadInput) tells before after status

-- what becomes of a run whose items were cut short, where so much was written of them
abbrev pub EndsCut : Cut → (tells : Bool) → (written after : List ℕ) → Status → Type 0
EndsCut (Refused refusal) tells written after status = SaysRefusal refusal tells written after status
EndsCut Unread tells written after status = (status ≡ ReadFault) × (after ≡ written)
EndsCut Unwritten tells written after status = (status ≡ WriteFault) × (after ≡ written)

-- What doing items came to: all were done, or they were cut short, and what becomes of the run by that.
abbrev pub EndsItems : {P T V : Type 0} → (P → Item → Outcome V → P → Type 0) → (T → P → Outcome V → List ℕ) →
    (T → P → Outcome V → T → Type 0) →
    (time : ℕ) → Scans → (p p' : P) (t t' : T) → Bool → (before after : List ℕ) → Result (Unit {0}) Status → Type 0
EndsItems performs said takes time items p p' t t' tells before after (Ok done) =
    DoesItems performs said takes time p t items tells before after (Ok done) p' t'
EndsItems performs said takes time items p p' t t' tells before after (Err status) =
    (cut : Cut) × (written : List ℕ) × DoesItems performs said takes time p t items tells before written (Err cut) p' t'
    × EndsCut cut tells written after status

-- these items were done of the trace of a network with this text, up to how they ended
abbrev pub DoesTrace : {P T V : Type 0} → (P → Item → Outcome V → P → Type 0) → (T → P → Outcome V → List ℕ) →
    (T → P → Outcome V → T → Type 0) →
    Network → (text : List ℕ) → (p p' : P) (t t' : T) → Bool → (before after : List ℕ) → Result (Unit {0}) Cut → Type 0
DoesTrace performs said takes net text p p' t t' tells before after ended =
    DoesItems performs said takes 0 p t (scans_of text net) tells before after ended p' t'

-- Why a trace was not run to its end: memory ran out, or its beginning could not be read; or its header is refused,
-- and its refusal was said, and nothing was performed; or its items were cut short.
pub data StopsTrace {P T V : Type 0} (performs : P → Item → Outcome V → P → Type 0) (said : T → P → Outcome V → List ℕ)
    (takes : T → P → Outcome V → T → Type 0) (net : Network) (held : Option (List ℕ)) (p p' : P) (t t' : T)
    (tells : Bool) (before after : List ℕ) (status : Status) : Type 0 where
  short : status ≡ Memory → after ≡ before → StopsTrace performs said takes net held p p' t t' tells before after status
  unread : status ≡ ReadFault → after ≡ before →
      StopsTrace performs said takes net held p p' t t' tells before after status
  headless : (text : List ℕ) (refusal : Refusal) → held ≡ Some text → scans_of text net ≡ only_refused refusal →
      p' ≡ p → SaysRefusal refusal tells before after status →
      StopsTrace performs said takes net held p p' t t' tells before after status
  cut : (text : List ℕ) (why : Cut) (written : List ℕ) → held ≡ Some text →
      DoesTrace performs said takes net text p p' t t' tells before written (Err why) →
      EndsCut why tells written after status →
      StopsTrace performs said takes net held p p' t t' tells before after status

-- what running the trace of a name came to: all of its items were done, or it stopped with a status
abbrev pub RunsTrace : {P T V : Type 0} → (P → Item → Outcome V → P → Type 0) → (T → P → Outcome V → List ℕ) →
    (T → P → Outcome V → T → Type 0) →
    Network → (name : List ℕ) → (p p' : P) (t t' : T) → (old new : CallSeen) → Result (Unit {0}) Status → Type 0
RunsTrace performs said takes net name p p' t t' old new (Ok done) =
    (text : List ℕ) × (old.files.held name ≡ Some text)
    × DoesTrace performs said takes net text p p' t t' old.out.tells old.out.taken new.out.taken (Ok done)
RunsTrace performs said takes net name p p' t t' old new (Err status) =
    StopsTrace performs said takes net (old.files.held name) p p' t t' old.out.tells old.out.taken new.out.taken status

-- the status of a run that ran its trace to the end, where it has this one, or stopped before
abbrev pub status_behind : Result (Unit {0}) Status → (whole : Status) → Status
status_behind (Ok done) whole = whole
status_behind (Err status) whole = status
