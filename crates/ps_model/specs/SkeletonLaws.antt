-- What holds of the leaves of skeletons.
use Rattle.std.specs.Prelude.{◌≡◌, ℕ, ◌<◌, true, false, List, [], ◌∷◌, ◌++◌, Some, All, slice_get}
use Rattle.ps_model.specs.Formula.{Formula}
use Rattle.ps_model.specs.Action.{Actual, assigns, calls}
use Rattle.ps_model.specs.Network.{Network, input_count, drives, is_new}
use Rattle.ps_model.specs.Typing.{safe, is_safe_signal}
use Rattle.ps_model.specs.Skeleton.{Skeleton, Skeletons, now, before, every, some, none_left, more, leaf_at, skeleton}

-- the signals at the leaves of a skeleton, of either moment
abbrev mutual
  pub leaf_signals : Skeleton → List ℕ
  leaf_signals (now s) = s ∷ []
  leaf_signals (before s) = s ∷ []
  leaf_signals (every ks) = leaf_signals_of ks
  leaf_signals (some ks) = leaf_signals_of ks

  -- those of each part, one after another
  pub leaf_signals_of : Skeletons → List ℕ
  leaf_signals_of none_left = []
  leaf_signals_of (more k ks) = leaf_signals k ++ leaf_signals_of ks

-- no leaf of the skeleton of a safe value, whichever step reads it, is BOOL
abbrev pub LeavesAreSafe : Network → Type 0
LeavesAreSafe net =
    (k : ℕ) (e : Formula) → safe net e ≡ true → All (λ s. is_safe_signal net s ≡ true) (leaf_signals (skeleton net k e))

-- What stands at the leaf of a signal that step k reads, by its driver.
pub record LeavesFollowDrivers (net : Network) : Type 0 where
  -- an input is of this scan
  pub input : (k s : ℕ) → s < input_count net → leaf_at net k s ≡ now s
  -- a signal assigned before has the skeleton of its value, as the step that assigns it reads it
  pub assigned : (k j s : ℕ) (e : Formula) → j < k → slice_get net.steps j ≡ Some (assigns s e) → leaf_at net k s ≡ skeleton net j e
  -- an output of an instance called before is of this scan
  pub called : (k j i s : ℕ) (args : List Actual) → j < k → slice_get net.steps j ≡ Some (calls i args) → drives net s (calls i args) ≡ true → leaf_at net k s ≡ now s
  -- what has no driver before is of the scan before
  pub remembered : (k s : ℕ) → is_new net k s ≡ false → leaf_at net k s ≡ before s
