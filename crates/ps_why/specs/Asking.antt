-- What is told of what a guard asks.
use Rattle.std.specs.Prelude.{◌≡◌, ◌≢◌, ◌⊎◌, ℕ, Bool, true, Option, MatchOption}
use Rattle.ps_model.specs.Kept.{Kept, seen}
use Rattle.ps_model.specs.Network.{Network}
use Rattle.ps_model.specs.Table.{Conditions}
use Rattle.ps_ways.specs.Ways.{asks}
use Rattle.ps_ways.specs.declared.step.LastStep.{LastStep}
use Rattle.ps_ways.specs.declared.way.Ask.{Ask}
use Rattle.ps_ways.specs.declared.way.Ask.TheVariants.{Elapsed}
use Rattle.ps_why.specs.Grounds.{MayBe}
use Rattle.ps_why.specs.Telling.{IsPinOf}
use Rattle.ps_why.specs.declared.fact.Fact.{Fact}
use Rattle.ps_why.specs.declared.fact.Fact.TheVariants.{PinIs, ResetWas, AuxiliaryWas, ModeWas}
use Rattle.ps_why.specs.declared.asks.Call.{Call}

-- what an instance kept of its last step, its state apart
abbrev pub last_kept : LastStep → Kept
last_kept last = record {
  code = 0;
  last_reset = last.reset;
  last_auxiliary = last.auxiliary;
  mode = last.mode;
  timer = 0;
}

-- these conditions are those of a call
abbrev pub IsSeenIn : Call → Conditions → Type 0
IsSeenIn call c = c ≡ seen call.kind c.pin c.elapsed (last_kept call.last)

-- The fact that a pin reads its value in a call, or what the instance kept of its last step.
abbrev pub IsOfStep : Call → (ℕ → Bool) → Fact → Type 0
IsOfStep call pins fact =
    IsPinOf call.step pins fact
    ⊎ ((fact ≡ ResetWas call.instance call.last.reset)
    ⊎ ((fact ≡ AuxiliaryWas call.instance call.last.auxiliary) ⊎ (fact ≡ ModeWas call.instance call.last.mode)))

-- It is told what a pin reads that a kind may lack, and what it was in the last step, where it is TRUE.
abbrev pub TellsLast : (told : Fact → Type 0) (k : ℕ) → (ℕ → Bool) → Option ℕ → (was : Fact) → Type 0
TellsLast told k pins pin was =
    MatchOption pin (Unit {0}) (λ j. told (PinIs k j (pins j)) × (pins j ≡ true → told was))

-- What is told settles what a guard asks of a call, unless that is the limit.
abbrev pub IsSettledBy : Call → Ask → Conditions → (told : Fact → Type 0) → Type 0
IsSettledBy call a c told = a ≢ Elapsed → (net : Network) (pins : ℕ → Bool) (elapsed : Bool) (kept : Kept) →
    MayBe net told call.step call.instance pins kept → asks a (seen call.kind pins elapsed kept) ≡ asks a c
