-- On what a fact rests in a scan.
use Rattle.std.specs.Prelude.{◌⊎◌, ℕ, Bool, List, Contains}
use Rattle.ps_model.specs.Network.{Network}
use Rattle.ps_model.specs.Scanning.{Solves, State}
use Rattle.ps_why.specs.Explained.{EachIsSo, IsLeaf}
use Rattle.ps_why.specs.Facts.{IsSo}
use Rattle.ps_why.specs.Laws.{IsOfApplication}
use Rattle.ps_why.specs.Rests.{Rests}
use Rattle.ps_why.specs.declared.fact.Fact.{Fact}
use Rattle.ps_why.specs.Scenes.{IsSceneOf}
use Rattle.ps_why.specs.declared.scene.Scene.{Scene}

-- What is told of a fact: it is a leaf, or rests on these, each of which is so.
pub record IsGiven (net : Network) (old : State) (since : ℕ) (new : State) (fact : Fact) (reasons : List Fact) : Type 0 where
  pub grounds : IsLeaf net fact ⊎ Rests net (Contains reasons) fact
  pub so : EachIsSo net old since new reasons
  pub fit : (reason : Fact) → Contains reasons reason → IsOfApplication net reason

-- In the scan that is seen, a fact that is so rests on these.
abbrev pub RestsThere : Network → Scene → Fact → List Fact → Type 0
RestsThere net x fact reasons = (old : State) (ins : List Bool) (since : ℕ) (new : State) → Solves net old ins since new →
    IsSceneOf net old since new x → IsOfApplication net fact → IsSo net old since new fact →
    IsGiven net old since new fact reasons
