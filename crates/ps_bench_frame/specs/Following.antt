-- What is done of a trace that is held, where nothing is written.
use Rattle.std.specs.Prelude.{◌≡◌, ℕ, List, Option, Some, Result, Ok, Err}
use Rattle.ps_base.specs.declared.failing.Refusal.{Refusal}
use Rattle.ps_model.specs.Meaning.{Item}
use Rattle.ps_model.specs.Network.{Network}
use Rattle.ps_outside.specs.declared.text_fail.TextFail.{TextFail}
use Rattle.ps_outside.specs.declared.text_fail.TextFail.TheVariants as text_fail
use Rattle.ps_runs.specs.Doing.{Did}
use Rattle.ps_runs.specs.Outcomes.{Outcome}
use Rattle.ps_runs.specs.declared.items.Cut.{Cut}
use Rattle.ps_runs.specs.declared.items.Cut.TheVariants as cut
use Rattle.ps_trace.specs.Scans.{scans_of}
use Rattle.ps_bench_frame.specs.declared.ending.Input.TheVariants.{Trace}
use Rattle.ps_bench_frame.specs.declared.ending.InputStop.TheVariants.{Refused, Unread}
use Rattle.ps_bench_frame.specs.declared.ending.Stop.{Stop}
use Rattle.ps_bench_frame.specs.declared.ending.Stop.TheVariants.{Input, Unwritten, NoMemory}

-- why a call stops that gets no trace
abbrev pub no_trace : TextFail → Stop
no_trace (text_fail.Refused refusal) = Input (Refused Trace refusal)
no_trace text_fail.Fault = Input (Unread Trace)
no_trace text_fail.Memory = NoMemory

-- why a call stops whose trace was cut short
abbrev pub cut_short : Cut → Stop
cut_short (cut.Refused refusal) = Input (Refused Trace refusal)
cut_short cut.Unread = Input (Unread Trace)
cut_short cut.Unwritten = Unwritten

-- The items of the trace that is held were done up to this end, by a performer and a taker, which became others.
abbrev pub IsFollowed : {P T V : Type 0} → (performs : P → Item → Outcome V → P → Type 0) →
    (said : T → P → Outcome V → List ℕ) → (takes : T → P → Outcome V → T → Type 0) →
    Network → (held : Option (List ℕ)) → (p p' : P) (t t' : T) → Result (Unit {0}) Cut → Type 0
IsFollowed performs said takes net held p p' t t' ended =
    (text : List ℕ) × (held ≡ Some text)
    × (bytes : List ℕ) × Did performs said takes 0 p t (scans_of text net) bytes ended p' t'

-- All of its items were done; or it is refused, in its header, at a line, or by the performer.
abbrev pub FollowsTrace : {P T V : Type 0} → (performs : P → Item → Outcome V → P → Type 0) →
    (said : T → P → Outcome V → List ℕ) → (takes : T → P → Outcome V → T → Type 0) →
    Network → (held : Option (List ℕ)) → (p p' : P) (t t' : T) → Result (Unit {0}) Stop → Type 0
FollowsTrace performs said takes net held p p' t t' (Ok done) =
    IsFollowed performs said takes net held p p' t t' (Ok tt)
FollowsTrace performs said takes net held p p' t t' (Err stop) =
    (refusal : Refusal) → stop ≡ Input (Refused Trace refusal) →
    IsFollowed performs said takes net held p p' t t' (Err (cut.Refused refusal))
