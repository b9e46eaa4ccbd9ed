-- What the next scan starts from once some items are done, and runs in two parts.
use Rattle.std.specs.Prelude.{◌≡◌, ◌↔◌, List, [], ◌∷◌, ◌++◌}
use Rattle.ps_model.specs.Network.{Network}
use Rattle.ps_model.specs.Scanning.{State}
use Rattle.ps_model.specs.Meaning.{Item, scan, restart, Past, nothing, last, Runs}

-- the time and the state of the last of these scans, or nothing where a restart stands after it; the states are those
-- of the scans, in order
abbrev pub past_after : Past → List Item → List State → Past
past_after past [] ws = past
past_after past (restart ∷ items) ws = past_after nothing items ws
past_after past (scan now ins ∷ items) [] = past
past_after past (scan now ins ∷ items) (w ∷ ws) = past_after (last now w) items ws

-- these states are those of the first items, and then those of more items from there on
pub record RunsInParts (net : Network) (past : Past) (items more : List Item) (ws : List State) : Type 0 where
  pub first : List State
  pub rest : List State
  pub whole : ws ≡ first ++ rest
  pub runs_first : Runs net past items first
  pub runs_rest : Runs net (past_after past items first) more rest

-- states are those of the whole exactly where they are those of the parts
abbrev pub RunsAreOfParts : Network → Type 0
RunsAreOfParts net =
    (past : Past) (items more : List Item) (ws : List State) → Runs net past (items ++ more) ws ↔ RunsInParts net past items more ws
