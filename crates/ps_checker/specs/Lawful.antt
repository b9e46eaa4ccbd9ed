-- What an accepted application keeps in every scan.
use Rattle.std.specs.Prelude.{◌≡◌, ℕ, Bool, true, List, Some, slice_get}
use Rattle.ps_model.specs.Formula.{Formula}
use Rattle.ps_model.specs.Action.{assigns}
use Rattle.ps_model.specs.Network.{Network}
use Rattle.ps_model.specs.Scanning.{State, Solves, signal_in}
use Rattle.ps_model.specs.Typing.{is_safe_signal}
use Rattle.ps_model.specs.Skeleton.{skeleton, holds}

-- a SAFEBOOL signal that an assignment drives is TRUE only where its skeleton is
abbrev pub KeepsSkeletons : Network → Type 0
KeepsSkeletons net = (old : State) (ins : List Bool) (dt : ℕ) (new : State) → Solves net old ins dt new →
    (k t : ℕ) (e : Formula) → slice_get net.steps k ≡ Some (assigns t e) → is_safe_signal net t ≡ true →
    signal_in new t ≡ true → holds old new (skeleton net k e) ≡ true
