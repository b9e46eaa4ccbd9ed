-- All that is told of a scan.
use Rattle.std.specs.Prelude.{◌≡◌, ◌⊎◌, ℕ, ◌<◌, Bool, List, Contains, Some, length, slice_get}
use Rattle.std.specs.List.{AllZip}
use Rattle.ps_model.specs.Network.{Network}
use Rattle.ps_model.specs.Scanning.{Solves, State}
use Rattle.ps_why.specs.Explained.{EachIsSo, IsExplained, IsLeaf}
use Rattle.ps_why.specs.Laws.{IsOfApplication}
use Rattle.ps_why.specs.Reasons.{reasons_of}
use Rattle.ps_why.specs.Rests.{Rests}
use Rattle.ps_why.specs.declared.fact.Fact.{Fact}
use Rattle.ps_why.specs.Scenes.{IsSceneOf}
use Rattle.ps_why.specs.declared.explaining.Explanation.{Explanation}
use Rattle.ps_why.specs.declared.explaining.Reasons.{Reasons}
use Rattle.ps_why.specs.declared.scene.Scene.{Scene}

-- a fact is one of those with these numbers
abbrev pub IsOneOf : List Fact → (numbers : List ℕ) → Fact → Type 0
IsOneOf facts numbers fact = (n : ℕ) × Contains numbers n × (slice_get facts n ≡ Some fact)

-- a fact is a reason of one that is told before it
abbrev pub IsReason : List Reasons → (n : ℕ) → Type 0
IsReason reasons n = (m : ℕ) × (r : Reasons) × (m < n) × (slice_get reasons m ≡ Some r) × Contains r.facts.items n

-- What was asked for is told, there are reasons for each fact, and nothing is told that was not asked for and is no
-- reason of a fact that is told before it.
pub record IsTold (roots : List Fact) (e : Explanation) : Type 0 where
  pub asked_for : (fact : Fact) → Contains roots fact → (n : ℕ) × (slice_get e.facts.items n ≡ Some fact)
  pub each : length e.reasons.items ≡ length e.facts.items
  pub used : (n : ℕ) (fact : Fact) → slice_get e.facts.items n ≡ Some fact →
      Contains roots fact ⊎ IsReason e.reasons.items n

-- The reasons of each fact are told, all of them and no others, in their order.
abbrev pub HasReasons : Network → Scene → Explanation → Type 0
HasReasons net x e = (n : ℕ) (fact : Fact) → slice_get e.facts.items n ≡ Some fact →
    (r : Reasons) × (slice_get e.reasons.items n ≡ Some r)
    × AllZip (λ reason m. slice_get e.facts.items m ≡ Some reason) (reasons_of net x fact) r.facts.items

-- each fact is a leaf, or rests on its reasons
abbrev pub EachRests : Network → List Fact → List Reasons → Type 0
EachRests net facts reasons = (n : ℕ) (fact : Fact) (r : Reasons) → slice_get facts n ≡ Some fact →
    slice_get reasons n ≡ Some r → IsLeaf net fact ⊎ Rests net (IsOneOf facts r.facts.items) fact

-- All that is told is so in a scan, and explained by what is told.
pub record IsMeant (net : Network) (old : State) (since : ℕ) (new : State) (e : Explanation) : Type 0 where
  pub so : EachIsSo net old since new e.facts.items
  pub rests : EachRests net e.facts.items e.reasons.items
  pub explained : IsExplained net e.facts.items

-- these facts are so, and of the application
abbrev pub AreSo : Network → State → ℕ → State → List Fact → Type 0
AreSo net old since new facts =
    EachIsSo net old since new facts × ((fact : Fact) → Contains facts fact → IsOfApplication net fact)

-- It is so in the scan that is seen, where what was asked for is so.
abbrev pub IsMeantThere : Network → Scene → List Fact → Explanation → Type 0
IsMeantThere net x roots e = (old : State) (ins : List Bool) (since : ℕ) (new : State) → Solves net old ins since new →
    IsSceneOf net old since new x → AreSo net old since new roots → IsMeant net old since new e
