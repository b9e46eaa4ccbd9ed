-- What a call of an application does in the scans of a run.
use Rattle.std.specs.Prelude.{◌≡◌, ◌==◌, ℕ, Bool, false, List, [], ◌∷◌, Option, Some, slice_get}
use Rattle.std.specs.List.{list_any}
use Rattle.ps_model.specs.Action.{Actual, calls}
use Rattle.ps_model.specs.Network.{Network, kind_at}
use Rattle.ps_model.specs.Meaning.{Item, Meaning, Past, last, nothing, old_state, passed, restart, scan}
use Rattle.ps_model.specs.Scanning.{State, block_in, limit_of, pins_under}
use Rattle.ps_model.specs.Table.{Conditions}
use Rattle.ps_model.specs.declared.kind.Kind.{Kind}
use Rattle.ps_ways.specs.Calling.{seen_by}
use Rattle.ps_cover.specs.Alone.{Allows}
use Rattle.ps_cover.specs.Marks.{marked}
use Rattle.ps_cover.specs.Timed.{IsNeverMade}

-- A scan of a run: the state before it, the ms that passed since the scan before, and the state after it.
pub record ScanStep : Type 0 where
  pub old : State
  pub since : ℕ
  pub new : State

-- the scans among these items, with the states that they leave
abbrev pub scans_of : Network → Past → List Item → List State → List ScanStep
scans_of net past [] ws = []
scans_of net past (restart ∷ items) ws = scans_of net nothing items ws
scans_of net past (scan now ins ∷ items) [] = []
scans_of net past (scan now ins ∷ items) (w ∷ ws) =
    record { old = old_state net past; since = passed past now; new = w } ∷ scans_of net (last now w) items ws

-- A call: the number of its step, its instance, and what stands at its pins.
pub record CallAt : Type 0 where
  pub step : ℕ
  pub instance : ℕ
  pub args : List Actual

-- the call stands in the application
abbrev pub IsCallOf : Network → CallAt → Type 0
IsCallOf net call = slice_get net.steps call.step ≡ Some (calls call.instance call.args)

-- the kind of its instance
abbrev pub kind_of : Network → CallAt → Kind
kind_of net call = kind_at net call.instance

-- what the guards of the instance see in a scan
abbrev pub seen_at : Network → CallAt → ScanStep → Conditions
seen_at net call s = seen_by net s.old s.since s.new call.step call.instance call.args

-- the call makes a mark in a scan
abbrev pub makes : Network → CallAt → (mark : ℕ) → ScanStep → Bool
makes net call mark s = marked (kind_of net call) (block_in s.old call.instance).code (seen_at net call s) mark

-- these pins have, in every scan, the values that are given: those of literals, and of pins that are left free
abbrev pub IsFixedBy : Kind → List Actual → List (Option Bool) → Type 0
IsFixedBy kind args fixed = (v : ℕ → Bool) → Allows fixed (pins_under v kind args)

-- the limit of a call is 0, so that it has elapsed in every scan
abbrev pub is_at_once : Kind → List Actual → Bool
is_at_once kind args = limit_of kind args == 0

-- A mark that no run of the block alone makes, at any times, no scan of the application makes, whatever its items.
abbrev pub NoneExcluded : Type 0
NoneExcluded = (net : Network) (call : CallAt) (fixed : List (Option Bool)) (mark : ℕ) (items : List Item) (ws : List State) →
    IsCallOf net call → IsFixedBy (kind_of net call) call.args fixed →
    IsNeverMade (kind_of net call) (is_at_once (kind_of net call) call.args) fixed mark →
    Meaning net items ws → list_any (makes net call mark) (scans_of net nothing items ws) ≡ false
