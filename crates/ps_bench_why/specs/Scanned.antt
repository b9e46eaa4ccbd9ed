-- The scans of a run, and the last one at or before a time.
use Rattle.std.specs.Prelude.{◌==◌, ℕ, Bool, List, [], ◌∷◌, Option, Some, None, nat_le, if◌then◌else◌}
use Rattle.ps_model.specs.Meaning.{Item, Past, last, nothing, restart, scan}
use Rattle.ps_model.specs.Scanning.{State, block_in}

-- Since when an instance is in the state that it has after a scan, where it was in the one before since another time:
-- since the scan, where that is a first one or the state is another, and else since that time.
abbrev pub begun : Past → (before : ℕ → ℕ) → (now : ℕ) → State → (i : ℕ) → ℕ
begun nothing before now w i = now
begun (last at v) before now w i = if (block_in v i).code == (block_in w i).code then before i else now

-- A scan of a run: what it starts from, its time in ms, its inputs, and the state that it leaves; and since when each
-- instance was in its state before the scan. Of a first scan that says nothing.
pub record Scanned : Type 0 where
  pub past : Past
  pub now : ℕ
  pub ins : List Bool
  pub new : State
  pub before : ℕ → ℕ

-- since when each instance is in its state after a scan
abbrev pub behind : Scanned → (i : ℕ) → ℕ
behind s = begun s.past s.before s.now s.new

-- the scans among these items, with the states that they leave
abbrev pub scans_from : Past → (before : ℕ → ℕ) → List Item → List State → List Scanned
scans_from past before [] ws = []
scans_from past before (restart ∷ items) ws = scans_from nothing before items ws
scans_from past before (scan now ins ∷ items) [] = []
scans_from past before (scan now ins ∷ items) (w ∷ ws) =
    record { past = past; now = now; ins = ins; new = w; before = before }
    ∷ scans_from (last now w) (begun past before now w) items ws

-- the same from the beginning on
abbrev pub scans_of : List Item → List State → List Scanned
scans_of items ws = scans_from nothing (λ i. 0) items ws

-- the last of these scans in front of the first one that is later than a time, and else the one that was found before
abbrev pub last_from : Option Scanned → (time : ℕ) → List Scanned → Option Scanned
last_from found time [] = found
last_from found time (s ∷ scans) = if nat_le s.now time then last_from (Some s) time scans else found

-- the last scan at or before a time: times do not fall
abbrev pub last_upto : (time : ℕ) → List Scanned → Option Scanned
last_upto time scans = last_from None time scans
