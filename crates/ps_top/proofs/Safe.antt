-- The scans of an accepted application keep its skeletons.
use Rattle.std.proofs.Common.{List, [], ◌∷◌}
use Rattle.ps_checker.specs.Lawful.{KeepsSkeletons}
use Rattle.ps_model.specs.Network.{Network}
use Rattle.ps_model.specs.Scanning.{State}
use Rattle.ps_model.specs.Meaning.{Item, scan, restart, Past, nothing, last, old_state, passed, Runs}
use Rattle.ps_top.specs.Skeletons.{AreSafeScans}

pub safe_scans : (net : Network) → KeepsSkeletons net → (past : Past) (items : List Item) (ws : List State) → Runs net past items ws → AreSafeScans net past items ws
safe_scans net keeps past [] ws runs = tt
safe_scans net keeps past (restart ∷ items) ws runs = safe_scans net keeps nothing items ws runs
safe_scans net keeps past (scan now ins ∷ items) [] runs = tt
safe_scans net keeps past (scan now ins ∷ items) (w ∷ ws) runs =
    (λ k t e at safe on. keeps (old_state net past) ins (passed past now) w runs.0 k t e at safe on, safe_scans net keeps (last now w) items ws runs.1)
