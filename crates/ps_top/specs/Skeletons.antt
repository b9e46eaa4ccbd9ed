-- What each report line of an accepted application keeps: a SAFEBOOL signal is TRUE only where its skeleton is.
use Rattle.std.specs.Prelude.{◌≡◌, ℕ, true, List, [], ◌∷◌, Some, slice_get}
use Rattle.ps_model.specs.Formula.{Formula}
use Rattle.ps_model.specs.Action.{assigns}
use Rattle.ps_model.specs.Network.{Network}
use Rattle.ps_model.specs.Scanning.{State, signal_in}
use Rattle.ps_model.specs.Skeleton.{skeleton, holds}
use Rattle.ps_model.specs.Typing.{is_safe_signal}
use Rattle.ps_model.specs.Meaning.{Item, scan, restart, Past, nothing, last, old_state}

-- in the scan from the old state to the new one every SAFEBOOL signal that is assigned is TRUE only where its skeleton
-- is
abbrev pub IsSafeScan : Network → State → State → Type 0
IsSafeScan net old new =
    (k t : ℕ) (e : Formula) → slice_get net.steps k ≡ Some (assigns t e) → is_safe_signal net t ≡ true →
    signal_in new t ≡ true → holds old new (skeleton net k e) ≡ true

-- it is so in each scan of these items, whose states these are, anew after each restart
abbrev pub AreSafeScans : Network → Past → List Item → List State → Type 0
AreSafeScans net past [] ws = Unit {0}
AreSafeScans net past (restart ∷ items) ws = AreSafeScans net nothing items ws
AreSafeScans net past (scan now ins ∷ items) [] = Unit {0}
AreSafeScans net past (scan now ins ∷ items) (w ∷ ws) =
    IsSafeScan net (old_state net past) w × AreSafeScans net (last now w) items ws
