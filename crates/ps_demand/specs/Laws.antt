-- What is proved of demands: that they hold, in every scan of every run, and that to make them slim changes nothing.
use Rattle.std.specs.Prelude.{◌≡◌, ℕ, ◌≤◌, true, Bool, List, [], ◌∷◌, length}
use Rattle.ps_model.specs.Formula.{Formula, value}
use Rattle.ps_model.specs.Network.{Network}
use Rattle.ps_model.specs.Scanning.{State, Solves, signal_in, read_at}
use Rattle.ps_model.specs.Meaning.{Item, scan, restart, Past, nothing, last, old_state, Runs}
use Rattle.ps_model.specs.Typing.{safe, is_safe_signal}
use Rattle.ps_demand.specs.Requirement.{Requirement, holds}
use Rattle.ps_demand.specs.Demand.{demand_at, demand}
use Rattle.ps_demand.specs.Slim.{slim}

-- a safe value, as step k reads it in any scan, is TRUE only where its demand holds of the scan's inputs and the state
-- of the scan before
abbrev pub ValuesMeetDemands : Network → Type 0
ValuesMeetDemands net =
    (old : State) (ins : List Bool) (dt : ℕ) (new : State) → Solves net old ins dt new →
    (k : ℕ) (e : Formula) → k ≤ length net.steps → safe net e ≡ true →
    value (read_at net old new k) e ≡ true → holds ins old (demand_at net k e) ≡ true

-- after a scan each safe signal that is TRUE has its demand, of the scan's inputs and the state of the scan before
abbrev pub HasDemands : Network → State → List Bool → State → Type 0
HasDemands net old ins new =
    (s : ℕ) → is_safe_signal net s ≡ true → signal_in new s ≡ true → holds ins old (demand net s) ≡ true

-- in every scan that the equations solve, each safe signal that is TRUE has its demand
abbrev pub ScansMeetDemands : Network → Type 0
ScansMeetDemands net =
    (old : State) (ins : List Bool) (dt : ℕ) (new : State) → Solves net old ins dt new → HasDemands net old ins new

-- in each scan among these items, with these states, each safe signal that is TRUE has its demand
abbrev pub EachHasDemands : Network → Past → List Item → List State → Type 0
EachHasDemands net past [] ws = Unit {0}
EachHasDemands net past (restart ∷ items) ws = EachHasDemands net nothing items ws
EachHasDemands net past (scan now ins ∷ items) [] = Unit {0}
EachHasDemands net past (scan now ins ∷ items) (w ∷ ws) =
    HasDemands net (old_state net past) ins w × EachHasDemands net (last now w) items ws

-- so it is in every run
abbrev pub RunsMeetDemands : Network → Type 0
RunsMeetDemands net = (past : Past) (items : List Item) (ws : List State) → Runs net past items ws → EachHasDemands net past items ws

-- a requirement made slim holds exactly where the requirement does
abbrev pub SlimHoldsTheSame : Type 0
SlimHoldsTheSame = (ins : List Bool) (old : State) (d : Requirement) → holds ins old (slim d) ≡ holds ins old d
