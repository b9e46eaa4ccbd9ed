-- The safe skeleton of a value: what must be TRUE, whatever its BOOL operands are. Profile.
use Rattle.std.specs.Prelude.{◌≡◌, ℕ, zero, suc, ◌≤◌, Bool, true, false, ◌&&◌, ◌||◌, ◌==◌, List, length, Option, Some}
use Rattle.std.specs.Prelude.{None, if◌then◌else◌, nat_lt, slice_get}
use Rattle.ps_model.specs.Formula.{Formula, Formulas, signal, all_of, any_of, no_operand, operand, value}
use Rattle.ps_model.specs.Action.{Action, assigns, calls}
use Rattle.ps_model.specs.Network.{Network, input_count, drives}
use Rattle.ps_model.specs.Scanning.{State, Solves, signal_in, read_at}
use Rattle.ps_model.specs.Typing.{safe}

mutual
  -- a leaf has its moment: this scan, or the one before
  pub data Skeleton : Type 0 where
    now : ℕ → Skeleton
    before : ℕ → Skeleton
    every : Skeletons → Skeleton
    some : Skeletons → Skeleton

  -- the parts of an AND or OR, in order
  pub data Skeletons : Type 0 where
    none_left : Skeletons
    more : Skeleton → Skeletons → Skeletons

-- the skeleton of a value over the skeletons of its signals: of an AND the safe operands alone, of an OR all
module _ (net : Network) (leaves : ℕ → Skeleton) where
  abbrev mutual
    -- the skeleton of a value
    pub skeleton_over : Formula → Skeleton
    skeleton_over (signal s) = leaves s
    skeleton_over (all_of es) = every (safe_skeletons es)
    skeleton_over (any_of es) = some (all_skeletons es)

    -- those of the safe operands alone
    pub safe_skeletons : Formulas → Skeletons
    safe_skeletons no_operand = none_left
    safe_skeletons (operand e es) = if safe net e then more (skeleton_over e) (safe_skeletons es) else safe_skeletons es

    -- those of all operands
    pub all_skeletons : Formulas → Skeletons
    all_skeletons no_operand = none_left
    all_skeletons (operand e es) = more (skeleton_over e) (all_skeletons es)

-- what a step makes of the skeletons of signals: an assigned one has that of its value, an output of a called instance
-- is of this scan
abbrev pub after_step : Network → Option Action → (ℕ → Skeleton) → ℕ → Skeleton
after_step net None leaves s = leaves s
after_step net (Some (assigns t e)) leaves s = if t == s then skeleton_over net leaves e else leaves s
after_step net (Some (calls i args)) leaves s = if drives net s (calls i args) then now s else leaves s

-- the skeleton of a signal as step k reads it: an input is of this scan, and what no step before k drives is of the one
-- before
abbrev pub leaf_at : Network → ℕ → ℕ → Skeleton
leaf_at net zero s = if nat_lt s (input_count net) then now s else before s
leaf_at net (suc k) s = after_step net (slice_get net.steps k) (leaf_at net k) s

-- the skeleton of a safe value read at step k
abbrev pub skeleton : Network → ℕ → Formula → Skeleton
skeleton net k e = skeleton_over net (leaf_at net k) e

-- whether a skeleton is TRUE for the states of two scans
abbrev mutual
  pub holds : State → State → Skeleton → Bool
  holds old new (now s) = signal_in new s
  holds old new (before s) = signal_in old s
  holds old new (every ks) = all_hold old new ks
  holds old new (some ks) = some_hold old new ks

  -- every part is TRUE
  pub all_hold : State → State → Skeletons → Bool
  all_hold old new none_left = true
  all_hold old new (more k ks) = holds old new k && all_hold old new ks

  -- at least one part is TRUE
  pub some_hold : State → State → Skeletons → Bool
  some_hold old new none_left = false
  some_hold old new (more k ks) = holds old new k || some_hold old new ks

-- a safe value, as step k reads it in any scan, is TRUE only where its skeleton is
abbrev pub ValuesKeepSkeletons : Network → Type 0
ValuesKeepSkeletons net =
    (old : State) (ins : List Bool) (dt : ℕ) (new : State) → Solves net old ins dt new →
    (k : ℕ) (e : Formula) → k ≤ length net.steps → safe net e ≡ true →
    value (read_at net old new k) e ≡ true → holds old new (skeleton net k e) ≡ true
