-- What can be asked for is so.
use Rattle.std.proofs.Common.{◌≡◌, ◌+◌, ℕ, false, List, subst, sym, ap, ◌∙◌, inl, inr}
use Rattle.std.specs.Prelude.{Some, slice_get, slice_index_or}
use Rattle.std.specs.Option.{option_map_or}
use Rattle.ps_model.specs.Action.{Actual, calls}
use Rattle.ps_model.specs.Network.{Network, first_pin}
use Rattle.ps_model.specs.Scanning.{State}
use Rattle.ps_model.specs.Sound.{IsSound}
use Rattle.ps_machine.specs.Calls.{call_step, called_pin, input_pin}
use Rattle.ps_machine.specs.Reading.{read_between}
use Rattle.ps_machine.proofs.Steps.{stands_at}
use Rattle.ps_why.specs.Facts.{IsSo}
use Rattle.ps_why.specs.Laws.{IsOfApplication}
use Rattle.ps_why.specs.declared.fact.Fact.{Fact}
use Rattle.ps_why.specs.declared.fact.Fact.TheVariants.{PinIs}
use Rattle.ps_why.specs.Explanations.{AreSo}
use Rattle.ps_why.specs.Questions.{AreAskedFor, IsAnswered, IsAskedFor, IsOf, value_of}
use Rattle.ps_why.specs.Scenes.{IsSceneOf, pins_in}
use Rattle.ps_why.specs.declared.questions.Question.{Question}
use Rattle.ps_why.specs.declared.questions.Question.TheVariants.{Signal, Instance, Pin}
use Rattle.ps_why.specs.declared.scene.Scene.{Scene}
use Rattle.ps_why.proofs.So.{pin_so}

module _ (net : Network) (sound : IsSound net) (x : Scene) (old : State) (since : ℕ) (new : State) (scene : IsSceneOf net old since new x) where
  -- what is read at a pin of a call
  pin_is : (i j k : ℕ) (args : List Actual) → call_step net i ≡ Some k → slice_get net.steps k ≡ Some (calls i args) →
      input_pin net x.signals.before.now x.signals.behind.now i j ≡ pins_in net x k i args j
  pin_is i j k args is at =
      ap (λ o. option_map_or (λ k. called_pin net (read_between net x.signals.before.now x.signals.behind.now k) (slice_get net.steps k) j) o false) is
      ∙ ap (λ a. called_pin net (read_between net x.signals.before.now x.signals.behind.now k) a j) at

  root_so : (question : Question) (fact : Fact) → IsAskedFor net x question fact → IsSo net old since new fact
  root_so (Signal s) fact is = subst (IsSo net old since new) (sym is) (sym (ap (λ bs. slice_index_or bs s false) scene.behind))
  root_so (Instance i) fact (inl w) = subst (IsSo net old since new) (sym w.2) (scene.calls i w.0 w.1).code
  root_so (Instance i) fact (inr w) =
      subst (IsSo net old since new) (sym w.2) (sym (ap (λ bs. slice_index_or bs (first_pin net i + w.0) false) scene.behind))
  root_so (Pin i j) fact w =
      let found = stands_at net sound i w.0 w.1 in
      subst (IsSo net old since new) (sym (w.2 ∙ ap (PinIs w.0 j) (pin_is i j w.0 found.0 w.1 found.1)))
      (pin_so net x old since new scene w.0 i found.0 found.1 j)

  root_fits : (question : Question) → IsOf net question → (fact : Fact) → IsAskedFor net x question fact → IsOfApplication net fact
  root_fits (Signal s) of fact is = subst (IsOfApplication net) (sym is) tt
  root_fits (Instance i) of fact (inl w) = subst (IsOfApplication net) (sym w.2) of
  root_fits (Instance i) of fact (inr w) = subst (IsOfApplication net) (sym w.2) tt
  root_fits (Pin i j) of fact w = subst (IsOfApplication net) (sym w.2) tt

  pub roots_so : (question : Question) → IsOf net question → (roots : List Fact) → AreAskedFor net x question roots → AreSo net old since new roots
  roots_so question of roots are = (λ f h. root_so question f (are f h), λ f h. root_fits question of f (are f h))

-- what is told among some is told among more
pub answered_more : (net : Network) (x : Scene) (q : Question) (told told' : Fact → Type 0) → ((f : Fact) → told f → told' f) →
    IsAnswered net x q told → IsAnswered net x q told'
answered_more net x (Signal s) told told' more h = more (value_of x s) h
answered_more net x (Instance i) told told' more h = ((h.0.0, h.0.1, more h.0.0 h.0.2), λ j below. more (value_of x _) (h.1 j below))
answered_more net x (Pin i j) told told' more h = (h.0, h.1, more h.0 h.2)
