-- What a name asks of a scan, and when a text tells why it is so.
use Rattle.std.specs.Prelude.{◌≡◌, ◌⊎◌, ◌+◌, ◌-◌, ◌<◌, ℕ, Bool, List, Contains, Option, Some, None, length, nat_lt}
use Rattle.std.specs.Prelude.{slice_get, if◌then◌else◌}
use Rattle.ps_base.specs.declared.failing.Place.{Place}
use Rattle.ps_bench_why.specs.Because.{IsToldAs}
use Rattle.ps_bench_why.specs.Moments.{Moment}
use Rattle.ps_cover.specs.Covers.{time_of}
use Rattle.ps_cover.specs.declared.format.Format.{Format}
use Rattle.ps_model.specs.Blocks.{block}
use Rattle.ps_model.specs.Meaning.{old_state, passed}
use Rattle.ps_model.specs.Network.{Network, first_pin, instance_count, kind_at}
use Rattle.ps_model.specs.Scanning.{Solves, State}
use Rattle.ps_bench_why.specs.Scanned.{Scanned, behind}
use Rattle.ps_parser.specs.Places.{step_place}
use Rattle.ps_parser.specs.Tree.{SourceTree}
use Rattle.ps_machine.specs.Calls.{call_step}
use Rattle.ps_why.specs.Drivers.{IsStepOf}
use Rattle.ps_why.specs.Explanations.{HasReasons, IsMeant, IsReason}
use Rattle.ps_why.specs.Scenes.{IsCallOf, IsSceneFor, IsSceneOf}
use Rattle.ps_why.specs.declared.scene.Scene.{Scene}
use Rattle.ps_why.specs.declared.explaining.Explanation.{Explanation}
use Rattle.ps_why.specs.declared.questions.Question.{Question}
use Rattle.ps_why.specs.declared.questions.Question.TheVariants.{Signal as OfSignal, Instance as OfInstance, Pin as OfPin}
use Rattle.ps_why.specs.declared.call.CallScene.{CallScene}
use Rattle.ps_bench_names.specs.declared.name.Name.{Name}
use Rattle.ps_bench_names.specs.declared.name.Name.TheVariants.{Signal, Code, Pin}
use Rattle.ps_why.specs.Explained.{EachIsSo, EachOfIsSo, IsOfInput}
use Rattle.ps_why.specs.declared.fact.Fact.{Fact}
use Rattle.ps_why.specs.declared.fact.Fact.TheVariants.{PinIs, SignalIs, StateIs}

-- a pin of an instance: an input pin as the call reads it, an output as its signal
abbrev pub question_of_pin : Network → (i j : ℕ) → Question
question_of_pin net i j =
    if nat_lt j (length (block (kind_at net i)).inputs) then OfPin i j
    else OfSignal (first_pin net i + (j - length (block (kind_at net i)).inputs))

-- what a name asks: why a signal has its value; why an instance is in its state, and its safe outputs have their
-- values; or of a pin
abbrev pub question_of : Network → Name → Question
question_of net (Signal s) = OfSignal s
question_of net (Code i) = OfInstance i
question_of net (Pin i j) = question_of_pin net i j

-- it is told what was asked for, with whichever value
abbrev pub IsAsked : Network → Question → (told : Fact → Type 0) → Type 0
IsAsked net (OfSignal s) told = (b : Bool) × told (SignalIs s b)
IsAsked net (OfInstance i) told =
    ((q : ℕ) × told (StateIs i q))
    × ((j : ℕ) → j < length (block (kind_at net i)).outputs → (b : Bool) × told (SignalIs (first_pin net i + j) b))
IsAsked net (OfPin i j) told = (k : ℕ) × (call_step net i ≡ Some k) × ((b : Bool) × told (PinIs k j b))

-- a fact is one of those that are asked for, with whichever value
abbrev pub IsOfQuestion : Network → Question → Fact → Type 0
IsOfQuestion net (OfSignal s) fact = (b : Bool) × (fact ≡ SignalIs s b)
IsOfQuestion net (OfInstance i) fact =
    ((q : ℕ) × (fact ≡ StateIs i q))
    ⊎ ((j : ℕ) × (j < length (block (kind_at net i)).outputs) × (b : Bool) × (fact ≡ SignalIs (first_pin net i + j) b))
IsOfQuestion net (OfPin i j) fact = (k : ℕ) × (call_step net i ≡ Some k) × (b : Bool) × (fact ≡ PinIs k j b)

-- No fact is told that the answer does not use: each is asked for, or is a reason of one that is told before it.
abbrev pub IsAllUsed : Network → Question → Explanation → Type 0
IsAllUsed net question e = (n : ℕ) (fact : Fact) → slice_get e.facts.items n ≡ Some fact →
    IsOfQuestion net question fact ⊎ IsReason e.reasons.items n

-- The moment is that of a scan: its time, that of the scan before, since when each instance was and is in its state, and
-- these states.
pub record IsMomentOf (net : Network) (s : Scanned) (m : Moment) : Type 0 where
  pub of : m.net ≡ net
  pub now : m.now ≡ s.now
  pub before : m.before ≡ time_of s.past
  pub since_before : (i : ℕ) → i < instance_count net → slice_get m.since_before i ≡ Some (s.before i)
  pub since : (i : ℕ) → i < instance_count net → slice_get m.since i ≡ Some (behind s i)
  pub each : length m.calls ≡ instance_count net
  pub calls : (i : ℕ) (c : CallScene) → slice_get m.calls i ≡ Some c →
      IsCallOf net (old_state net s.past) (passed s.past s.now) s.new i c

-- where the statement of a step stands in a source, if there is one
abbrev pub place_of_step : SourceTree → (step : Option ℕ) → Option Place
place_of_step tree (Some k) = step_place tree k None
place_of_step tree None = None

-- A fact has the place of the step that makes it: the statement that assigns the signal, or the call of the instance,
-- in a copy of a function block that in the text of the function block. It has none where no step makes it.
abbrev pub IsPlaceOf : Network → SourceTree → Fact → Option Place → Type 0
IsPlaceOf net tree fact place = (step : Option ℕ) × IsStepOf net fact step × (place ≡ place_of_step tree step)

-- so has each of these facts
abbrev pub ArePlacesOf : Network → SourceTree → List Fact → List (Option Place) → Type 0
ArePlacesOf net tree facts places = (n : ℕ) (fact : Fact) → slice_get facts n ≡ Some fact →
    (place : Option Place) × (slice_get places n ≡ Some place) × IsPlaceOf net tree fact place

-- Whatever the inputs are that are not told: in every scan from the same state and after the same time, in which those
-- that are told have their values, all is so that is told.
abbrev pub IsEnough : Network → Scanned → List Fact → Type 0
IsEnough net s facts = (others : List Bool) (other : State) →
    Solves net (old_state net s.past) others (passed s.past s.now) other →
    EachOfIsSo net (old_state net s.past) (passed s.past s.now) other (IsOfInput net) facts →
    EachIsSo net (old_state net s.past) (passed s.past s.now) other facts

-- A text tells why it is so in a scan what is asked: it tells an explanation, in which that is told, and all of which is
-- so in the scan, is used, rests on what is told, and is enough; each fact with its reasons, all of them and no others,
-- as the scan is seen; with the places of the source.
pub record IsReasoned (net : Network) (tree : SourceTree) (s : Scanned) (question : Question) (format : Format) (text : List ℕ) : Type 0 where
  pub moment : Moment
  pub explanation : Explanation
  pub places : List (Option Place)
  pub asked : IsAsked net question (Contains explanation.facts.items)
  pub used : IsAllUsed net question explanation
  pub meant : IsMeant net (old_state net s.past) (passed s.past s.now) s.new explanation
  pub enough : IsEnough net s explanation.facts.items
  pub of : IsMomentOf net s moment
  pub scene : Scene
  pub fits : IsSceneFor net scene
  pub seen : IsSceneOf net (old_state net s.past) (passed s.past s.now) s.new scene
  pub reasons : HasReasons net scene explanation
  pub placed : ArePlacesOf net tree explanation.facts.items places
  pub told : IsToldAs moment explanation places format text
