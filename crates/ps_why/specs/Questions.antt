-- What is asked of a scan, and when it is answered.
use Rattle.std.specs.Prelude.{◌≡◌, ◌⊎◌, ℕ, ◌+◌, ◌<◌, Bool, false, List, Contains, Some, length, slice_get}
use Rattle.std.specs.Prelude.{slice_index_or}
use Rattle.ps_model.specs.Blocks.{block}
use Rattle.ps_model.specs.Network.{Network, first_pin, instance_count, kind_at}
use Rattle.ps_model.specs.Scanning.{Solves, State}
use Rattle.ps_machine.specs.Calls.{call_step, input_pin}
use Rattle.ps_why.specs.declared.fact.Fact.{Fact}
use Rattle.ps_why.specs.declared.fact.Fact.TheVariants.{PinIs, SignalIs, StateIs}
use Rattle.ps_why.specs.Explanations.{IsMeant, IsReason}
use Rattle.ps_why.specs.Scenes.{IsSceneOf}
use Rattle.ps_why.specs.declared.explaining.Explanation.{Explanation}
use Rattle.ps_why.specs.declared.questions.Question.{Question}
use Rattle.ps_why.specs.declared.questions.Question.TheVariants.{Signal, Instance, Pin}
use Rattle.ps_why.specs.declared.call.CallScene.{CallScene}
use Rattle.ps_why.specs.declared.scene.Scene.{Scene}

-- the fact that a signal has its value after a scan
abbrev pub value_of : Scene → (s : ℕ) → Fact
value_of x s = SignalIs s (slice_index_or x.signals.behind.now s false)

-- a fact is that of a safe output of an instance
abbrev pub IsSafeValue : Network → Scene → (i : ℕ) → Fact → Type 0
IsSafeValue net x i fact =
    (j : ℕ) × (j < length (block (kind_at net i)).outputs) × (fact ≡ value_of x (first_pin net i + j))

-- a fact is that the call of an instance reads its value at a pin
abbrev pub IsPinOfCall : Network → Scene → (i j : ℕ) → Fact → Type 0
IsPinOfCall net x i j fact =
    (k : ℕ) × (call_step net i ≡ Some k) × (fact ≡ PinIs k j (input_pin net x.signals.before.now x.signals.behind.now i j))

-- a fact is that an instance is in its state
abbrev pub IsState : Network → Scene → (i : ℕ) → Fact → Type 0
IsState net x i fact = (c : CallScene) × (slice_get x.calls.now i ≡ Some c) × (fact ≡ StateIs i c.code)

-- what is asked of an instance, is asked of one that is declared
abbrev pub IsOf : Network → Question → Type 0
IsOf net (Signal s) = Unit {0}
IsOf net (Instance i) = i < instance_count net
IsOf net (Pin i j) = i < instance_count net

-- What is asked for is told: the value of a signal; the state of an instance, and the values of its safe outputs; what
-- is read at a pin.
abbrev pub IsAnswered : Network → Scene → Question → (told : Fact → Type 0) → Type 0
IsAnswered net x (Signal s) told = told (value_of x s)
IsAnswered net x (Instance i) told =
    ((fact : Fact) × IsState net x i fact × told fact)
    × ((j : ℕ) → j < length (block (kind_at net i)).outputs → told (value_of x (first_pin net i + j)))
IsAnswered net x (Pin i j) told = (fact : Fact) × IsPinOfCall net x i j fact × told fact

-- a fact is one of those that a question asks for
abbrev pub IsAskedFor : Network → Scene → Question → Fact → Type 0
IsAskedFor net x (Signal s) fact = fact ≡ value_of x s
IsAskedFor net x (Instance i) fact = IsState net x i fact ⊎ IsSafeValue net x i fact
IsAskedFor net x (Pin i j) fact = IsPinOfCall net x i j fact

-- each of these facts is
abbrev pub AreAskedFor : Network → Scene → Question → List Fact → Type 0
AreAskedFor net x question facts = (fact : Fact) → Contains facts fact → IsAskedFor net x question fact

-- Nothing is told that was not asked for and is no reason of a fact that is told before it.
abbrev pub IsAllUsed : Network → Scene → Question → Explanation → Type 0
IsAllUsed net x question e = (n : ℕ) (fact : Fact) → slice_get e.facts.items n ≡ Some fact →
    IsAskedFor net x question fact ⊎ IsReason e.reasons.items n

-- In every scan that is seen so, all that is told is so, and explained.
abbrev pub IsAnsweredThere : Network → Scene → Explanation → Type 0
IsAnsweredThere net x e = (old : State) (ins : List Bool) (since : ℕ) (new : State) → Solves net old ins since new →
    IsSceneOf net old since new x → IsMeant net old since new e
