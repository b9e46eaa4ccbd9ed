-- What is answered when the demand of a signal is asked for.
use Rattle.std.specs.Prelude.{◌≡◌, ℕ, ◌≤◌, ◌<◌, Result, Ok, Err}
use Rattle.ps_model.specs.Network.{Network}
use Rattle.ps_demand.specs.declared.demand.Demand.{Demand}
use Rattle.ps_demand.specs.declared.demand.DemandFail.{DemandFail}
use Rattle.ps_demand.specs.declared.demand.DemandFail.TheVariants.{Memory as NoMemory, Large}
use Rattle.ps_demand.specs.declared.demand.TheConstants.{MOST_LEAVES}
use Rattle.ps_demand.specs.Requirement.{leaf_count}
use Rattle.ps_demand.specs.Demand.{demand}
use Rattle.ps_demand.specs.Slim.{slim}
use Rattle.ps_demand.specs.Views.{requirement}

-- the demand made slim where it has few leaves before it is made so, and Large where it has too many
abbrev pub IsAnswer : Network → ℕ → Result Demand DemandFail → Type 0
IsAnswer net s (Ok d) = (leaf_count (demand net s) ≤ MOST_LEAVES) × (requirement d ≡ slim (demand net s))
IsAnswer net s (Err Large) = MOST_LEAVES < leaf_count (demand net s)
IsAnswer net s (Err NoMemory) = Unit {0}
