-- What is seen of a scan is so in it.
use Rattle.std.proofs.Common.{◌≡◌, ℕ, Bool, true, false, List, subst, sym, ap, ◌∙◌, inl, inr}
use Rattle.std.specs.Prelude.{Some, None, Option, cond, slice_get, slice_index_or}
use Rattle.std.proofs.lemmas.Bool.{cases_Bool, cond-true, cond-false}
use Rattle.ps_model.specs.Action.{Action, Actual, assigns, calls}
use Rattle.ps_model.specs.Network.{Network, is_new, kind_at}
use Rattle.ps_model.specs.Scanning.{State, pins_under, read_at}
use Rattle.ps_machine.proofs.Between.{reads_are as between}
use Rattle.ps_ways.specs.Calling.{pins_read}
use Rattle.ps_why.specs.Facts.{IsSo}
use Rattle.ps_why.specs.Laws.{IsOfApplication}
use Rattle.ps_why.specs.declared.fact.Fact.TheVariants.{SignalIs, SignalWas, PinIs}
use Rattle.ps_why.specs.FactsRead.{fact_of_read}
use Rattle.ps_why.specs.Scenes.{IsSceneOf, pins_in, read_in}
use Rattle.ps_why.specs.declared.scene.Scene.{Scene}

-- what is read off the call at a step
abbrev of_call : {X : Type 0} → (ℕ → List Actual → X) → X → Option Action → X
of_call f d None = d
of_call f d (Some (assigns t e)) = d
of_call f d (Some (calls i args)) = f i args

-- at a step stands one call
pub one_call : {X : Type 0} (net : Network) (f : ℕ → List Actual → X) (d : X) (k i i' : ℕ) (args args' : List Actual) →
    slice_get net.steps k ≡ Some (calls i args) → slice_get net.steps k ≡ Some (calls i' args') → f i' args' ≡ f i args
one_call net f d k i i' args args' here there = ap (of_call f d) (sym there ∙ here)

module _ (net : Network) (x : Scene) (old : State) (since : ℕ) (new : State) (scene : IsSceneOf net old since new x) where
  -- a step reads what it reads
  pub reads_are : (k : ℕ) → read_in net x k ≡ read_at net old new k
  reads_are k = between net x.signals.before.now x.signals.behind.now old new scene.before scene.behind k

  pub pins_are : (k i : ℕ) (args : List Actual) → pins_in net x k i args ≡ pins_read net old since new k i args
  pins_are k i args = ap (λ v. pins_under v (kind_at net i) args) (reads_are k)

  -- a signal is read as it is
  pub read_so : (k s : ℕ) → IsSo net old since new (fact_of_read net k s (read_in net x k s))
  read_so k s =
      elim (cases_Bool (is_new net k s)) [
        | inl y ↦
            subst (IsSo net old since new) (sym (cond-true (is_new net k s) (SignalIs s (read_in net x k s)) (SignalWas s (read_in net x k s)) y))
            (sym (cond-true (is_new net k s) _ _ y ∙ ap (λ bs. slice_index_or bs s false) scene.behind))
        | inr n ↦
            subst (IsSo net old since new) (sym (cond-false (is_new net k s) (SignalIs s (read_in net x k s)) (SignalWas s (read_in net x k s)) n))
            (sym (cond-false (is_new net k s) _ _ n ∙ ap (λ bs. slice_index_or bs s false) scene.before))
      ]

  -- and a pin
  pub pin_so : (k i : ℕ) (args : List Actual) → slice_get net.steps k ≡ Some (calls i args) → (j : ℕ) →
      IsSo net old since new (PinIs k j (pins_in net x k i args j))
  pin_so k i args stands j i' args' there =
      one_call net (λ i args. pins_read net old since new k i args j) false k i i' args args' stands there
      ∙ sym (ap (λ p. p j) (pins_are k i args))

-- what is told of a read is of the application
pub read_fits : (net : Network) (k s : ℕ) (b : Bool) → IsOfApplication net (fact_of_read net k s b)
read_fits net k s b = by (is_new net k s)
  where
    by : (n : Bool) → IsOfApplication net (cond n (SignalIs s b) (SignalWas s b))
    by true = tt
    by false = tt
