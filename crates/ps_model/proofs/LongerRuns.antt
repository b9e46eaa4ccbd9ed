-- The states of longer lists of items: from the parts, and into the parts.
use Rattle.std.proofs.Common.{◌≡◌, ℕ, Bool, List, [], ◌∷◌, ◌++◌, refl, ap, sym, ◌∙◌, subst}
use Rattle.ps_model.specs.Network.{Network}
use Rattle.ps_model.specs.Sound.{IsSound}
use Rattle.ps_model.specs.Scanning.{State, Solves}
use Rattle.ps_model.specs.Meaning.{Item, scan, restart, Past, nothing, last, old_state, passed, Runs}
use Rattle.ps_model.specs.PastAfter.{past_after, RunsInParts, RunsAreOfParts}
use Rattle.ps_model.proofs.Runs.{one_run}

module _ (net : Network) where
  -- states of some items, and of more items from there on, are together states of the whole
  pub runs-append : (past : Past) (items more : List Item) (ws vs : List State) →
      Runs net past items ws → Runs net (past_after past items ws) more vs → Runs net past (items ++ more) (ws ++ vs)
  runs-append past [] more ws vs h h' = subst (λ x. Runs net past more (x ++ vs)) (sym h) h'
  runs-append past (restart ∷ items) more ws vs h h' = runs-append nothing items more ws vs h h'
  runs-append past (scan now ins ∷ items) more [] vs h h' = absurd h
  runs-append past (scan now ins ∷ items) more (w ∷ ws) vs h h' = (h.0, runs-append (last now w) items more ws vs h.1 h')

  -- states of a whole come in two parts
  pub runs_in_parts : (past : Past) (items more : List Item) (ws : List State) → Runs net past (items ++ more) ws → RunsInParts net past items more ws
  runs_in_parts past [] more ws h = record { first = []; rest = ws; whole = refl; runs_first = refl; runs_rest = h }
  runs_in_parts past (restart ∷ items) more ws h =
      let parts = runs_in_parts nothing items more ws h in
      record { first = parts.first; rest = parts.rest; whole = parts.whole; runs_first = parts.runs_first; runs_rest = parts.runs_rest }
  runs_in_parts past (scan now ins ∷ items) more [] h = absurd h
  runs_in_parts past (scan now ins ∷ items) more (w ∷ ws) h =
      let parts = runs_in_parts (last now w) items more ws h.1 in
      record {
        first = w ∷ parts.first;
        rest = parts.rest;
        whole = ap (λ x. w ∷ x) parts.whole;
        runs_first = (h.0, parts.runs_first);
        runs_rest = parts.runs_rest;
      }

  pub runs_are_of_parts : RunsAreOfParts net
  runs_are_of_parts past items more ws = (
    runs_in_parts past items more ws,
    λ parts. subst (Runs net past (items ++ more)) (sym parts.whole) (runs-append past items more parts.first parts.rest parts.runs_first parts.runs_rest),
  )

  -- what the next scan starts from goes on from the first items to the rest
  pub past_after-append : (past : Past) (items more : List Item) (ws vs : List State) →
      Runs net past items ws → past_after past (items ++ more) (ws ++ vs) ≡ past_after (past_after past items ws) more vs
  past_after-append past [] more ws vs h = ap (λ x. past_after past more (x ++ vs)) h
  past_after-append past (restart ∷ items) more ws vs h = past_after-append nothing items more ws vs h
  past_after-append past (scan now ins ∷ items) more [] vs h = absurd h
  past_after-append past (scan now ins ∷ items) more (w ∷ ws) vs h = past_after-append (last now w) items more ws vs h.1

  -- one scan more
  pub runs_one_more : (past : Past) (items : List Item) (now : ℕ) (ins : List Bool) (ws : List State) (w : State) →
      Runs net past items ws → Solves net (old_state net (past_after past items ws)) ins (passed (past_after past items ws) now) w →
      Runs net past (items ++ scan now ins ∷ []) (ws ++ w ∷ [])
  runs_one_more past items now ins ws w h solves = runs-append past items (scan now ins ∷ []) ws (w ∷ []) h (solves, refl)

  -- what the next scan starts from after one scan more
  pub past_after_one_more : (past : Past) (items : List Item) (now : ℕ) (ins : List Bool) (ws : List State) (w : State) →
      Runs net past items ws → past_after past (items ++ scan now ins ∷ []) (ws ++ w ∷ []) ≡ last now w
  past_after_one_more past items now ins ws w h = past_after-append past items (scan now ins ∷ []) ws (w ∷ []) h

  -- a restart more
  pub runs_restarted : (past : Past) (items : List Item) (ws : List State) →
      Runs net past items ws → Runs net past (items ++ restart ∷ []) ws × (past_after past (items ++ restart ∷ []) ws ≡ nothing)
  runs_restarted past [] ws h = (h, refl)
  runs_restarted past (restart ∷ items) ws h = runs_restarted nothing items ws h
  runs_restarted past (scan now ins ∷ items) [] h = absurd h
  runs_restarted past (scan now ins ∷ items) (w ∷ ws) h = let more = runs_restarted (last now w) items ws h.1 in ((h.0, more.0), more.1)

-- the states of a sound application's first items are the first states of the whole
pub rest_runs : (net : Network) → IsSound net → (past : Past) (items more : List Item) (ws us : List State) →
    Runs net past items ws → Runs net past (items ++ more) us → (vs : List State) × (us ≡ ws ++ vs) × Runs net (past_after past items ws) more vs
rest_runs net sound past items more ws us h whole =
    let parts = runs_in_parts net past items more us whole in
    let only = (one_run net sound past items).2 in
    let same : parts.first ≡ ws = only parts.first parts.runs_first ∙ sym (only ws h) in
    (parts.rest, parts.whole ∙ ap (λ x. x ++ parts.rest) same, subst (λ x. Runs net (past_after past items x) more parts.rest) same parts.runs_rest)
