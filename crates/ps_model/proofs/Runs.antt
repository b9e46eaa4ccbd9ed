-- Each list of items has exactly one meaning.
use Rattle.std.proofs.Common.{◌≡◌, ℕ, Bool, List, [], ◌∷◌, refl, ap, ◌∙◌, subst}
use Rattle.ps_model.specs.Network.{Network}
use Rattle.ps_model.specs.Sound.{IsSound}
use Rattle.ps_model.specs.Scanning.{State, Solves}
use Rattle.ps_model.specs.Meaning.{Item, scan, restart, Past, nothing, last, old_state, passed, Runs, HasOneMeaning}
use Rattle.ps_model.proofs.OneSolution.{has_one_solution}

module _ (net : Network) (sound : IsSound net) where
  first_is : (past : Past) (now : ℕ) (ins : List Bool) (items : List Item) (w : State) (rest : List State) →
      ((v : State) → Solves net (old_state net past) ins (passed past now) v → v ≡ w) →
      ((vs : List State) → Runs net (last now w) items vs → vs ≡ rest) →
      (vs : List State) → Runs net past (scan now ins ∷ items) vs → vs ≡ w ∷ rest
  first_is past now ins items w rest only others [] h = absurd h
  first_is past now ins items w rest only others (v ∷ vs) h =
      let same : v ≡ w = only v h.0 in
      ap (λ x. x ∷ vs) same ∙ ap (λ xs. w ∷ xs) (others vs (subst (λ x. Runs net (last now x) items vs) same h.1))

  pub one_run : (past : Past) (items : List Item) → (ws : List State) × Runs net past items ws × ((vs : List State) → Runs net past items vs → vs ≡ ws)
  one_run past [] = ([], refl, λ vs h. h)
  one_run past (restart ∷ items) = one_run nothing items
  one_run past (scan now ins ∷ items) =
      let one = has_one_solution net sound (old_state net past) ins (passed past now) in
      let rest = one_run (last now one.solution) items in
      (one.solution ∷ rest.0, (one.solves, rest.1), first_is past now ins items one.solution rest.0 one.only rest.2)

  -- each list of items has exactly one meaning
  pub has_one_meaning : (items : List Item) → HasOneMeaning net items
  has_one_meaning items = let run = one_run nothing items in record { meaning = run.0; means = run.1; only = run.2 }
