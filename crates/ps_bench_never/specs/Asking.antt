-- What `never` writes of an application and a rules file, and how it stops.
use Rattle.std.specs.Prelude.{◌≡◌, ◌⊎◌, ◌==◌, ℕ, Bool, IsTrue, List, if◌then◌else◌, Option, Some, Result, Ok, Err}
use Rattle.ps_bench_frame.specs.Opening.{IsOfApp, Source, source}
use Rattle.ps_bench_frame.specs.Refusing.{rules_refused_line}
use Rattle.ps_bench_frame.specs.Stopping.{StopsAtApp, Took, TookNothing, TookSome}
use Rattle.ps_bench_frame.specs.declared.ending.Input.TheVariants.{Rules}
use Rattle.ps_bench_frame.specs.declared.ending.InputStop.TheVariants.{RulesRefused, Unread}
use Rattle.ps_bench_frame.specs.declared.ending.Status.{Status}
use Rattle.ps_bench_frame.specs.declared.ending.Status.TheVariants.{Done, Failed}
use Rattle.ps_bench_frame.specs.declared.ending.Stop.{Stop}
use Rattle.ps_bench_frame.specs.declared.ending.Stop.TheVariants.{Input, Unwritten, NoMemory}
use Rattle.ps_model.specs.Network.{Network}
use Rattle.ps_model.specs.declared.channel.ImageSizes.{ImageSizes}
use Rattle.ps_bench_never.specs.declared.answering.Told.{Told}
use Rattle.ps_bench_rules.specs.declared.flaw.RulesRefusal.{RulesRefusal}
use Rattle.ps_bench_never.specs.AnsweringAny.{IsRefusedFor, IsToldOf}

-- a number of states, and 1 for 0
abbrev pub at_least_one : ℕ → ℕ
at_least_one states = if states == 0 then 1 else states

-- the rules of the text of this name are told so, where it is known, and so many states may be held, 1 for 0
abbrev pub AreTold : Source → (rules : List ℕ) → (states : ℕ) → Told → Type 0
AreTold from rules states told =
    IsTrue from.tells → (text : List ℕ) × (from.held rules ≡ Some text) × IsToldOf from.net rules (at_least_one states) text told

-- the text of this name is refused so, where it is known
abbrev pub IsRefusedRules : Source → (rules : List ℕ) → RulesRefusal → Type 0
IsRefusedRules from rules refusal =
    IsTrue from.tells → (text : List ℕ) × (from.held rules ≡ Some text) × IsRefusedFor from.net text refusal

-- whether all holds that is told
abbrev pub status_by : Bool → Status
status_by holds = if holds then Done else Failed

-- whether every rule holds
abbrev pub status_of : Told → Status
status_of told = status_by told.do_all_hold

-- What `never` answers of an application: what is told of the rules was written, and whether all hold.
abbrev pub Answered : Source → (rules : List ℕ) → (states : ℕ) → (tells : Bool) → (before after : List ℕ) → Status → Type 0
Answered from rules states tells before after status =
    (told : Told) × AreTold from rules states told × (status ≡ status_of told) × Took told.text tells before after

-- how a call stops for this refusal of its rules: the line of it was written, or a beginning, or, if memory runs out,
-- nothing
abbrev pub StopsFor : RulesRefusal → (tells : Bool) → (before after : List ℕ) → Stop → Type 0
StopsFor refusal tells before after stop =
    ((stop ≡ Input (RulesRefused refusal)) × Took (rules_refused_line refusal) tells before after)
    ⊎ ((stop ≡ Unwritten) × TookSome (rules_refused_line refusal) tells before after)
    ⊎ ((stop ≡ NoMemory) × TookNothing tells before after)

-- how it stops that is refused its rules
abbrev pub StopsRefusing : Source → (rules : List ℕ) → (tells : Bool) → (before after : List ℕ) → Stop → Type 0
StopsRefusing from rules tells before after stop =
    (refusal : RulesRefusal) × IsRefusedRules from rules refusal × StopsFor refusal tells before after stop

-- how it stops that is told of its rules: a beginning of that was written
abbrev pub StopsTelling : Source → (rules : List ℕ) → (states : ℕ) → (tells : Bool) → (before after : List ℕ) → Stop → Type 0
StopsTelling from rules states tells before after stop =
    (told : Told) × AreTold from rules states told × (stop ≡ Unwritten) × TookSome told.text tells before after

-- How `never` stops with its application: it is refused its rules, or stops in what is told of them, or the rules cannot
-- be read or memory runs out, and nothing was written.
abbrev pub StopsIn : Source → (rules : List ℕ) → (states : ℕ) → (tells : Bool) → (before after : List ℕ) → Stop → Type 0
StopsIn from rules states tells before after stop =
    StopsRefusing from rules tells before after stop
    ⊎ StopsTelling from rules states tells before after stop
    ⊎ ((stop ≡ Input (Unread Rules)) × TookNothing tells before after)
    ⊎ ((stop ≡ NoMemory) × TookNothing tells before after)

-- what `never` answers of an application, or how it stops
abbrev pub AnswersIn : Source → (rules : List ℕ) → (states : ℕ) → (tells : Bool) → (before after : List ℕ) →
    Result Status Stop → Type 0
AnswersIn from rules states tells before after (Ok status) = Answered from rules states tells before after status
AnswersIn from rules states tells before after (Err stop) = StopsIn from rules states tells before after stop

-- What `never` answers of the application of this name.
abbrev pub AnswersNever : (app rules : List ℕ) → (states : ℕ) → (reading : Bool) (held : List ℕ → Option (List ℕ)) →
    (tells : Bool) → (before after : List ℕ) → Status → Type 0
AnswersNever app rules states reading held tells before after status =
    (net : Network) × (sizes : ImageSizes) × IsOfApp (source net sizes reading held) app
    × Answered (source net sizes reading held) rules states tells before after status

-- How `never` stops before all is done: without the application of this name, or with it.
abbrev pub StopsNever : (app rules : List ℕ) → (states : ℕ) → (reading : Bool) (held : List ℕ → Option (List ℕ)) →
    (tells : Bool) → (before after : List ℕ) → Stop → Type 0
StopsNever app rules states reading held tells before after stop =
    StopsAtApp reading held app stop tells before after
    ⊎ ((net : Network) × (sizes : ImageSizes) × IsOfApp (source net sizes reading held) app
    × StopsIn (source net sizes reading held) rules states tells before after stop)
