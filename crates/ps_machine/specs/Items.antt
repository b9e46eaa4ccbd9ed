-- Which scans and restarts a world of seats can run.
use Rattle.std.specs.Prelude.{◌≡◌, ◌≤◌, ◌<◌, ◌^◌, ℕ, List, [], ◌∷◌, length}
use Rattle.ps_model.specs.Meaning.{Item, scan, restart}

-- each scan has a value for each input, and a time of 32 bits that is not earlier than that of the scan before, also
-- across restarts
abbrev pub AreTimely : (inputs latest : ℕ) → List Item → Type 0
AreTimely inputs latest [] = Unit {0}
AreTimely inputs latest (restart ∷ items) = AreTimely inputs latest items
AreTimely inputs latest (scan now ins ∷ items) = (latest ≤ now) × (now < 2 ^ 32) × (length ins ≡ inputs) × AreTimely inputs now items
