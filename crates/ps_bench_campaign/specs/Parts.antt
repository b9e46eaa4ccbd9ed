-- Trials in parts.
use Rattle.std.specs.Prelude.{◌≡◌, ◌+◌, ℕ, List}
use Rattle.ps_model.specs.Meaning.{Item}
use Rattle.ps_model.specs.Network.{Network}
use Rattle.ps_bench_trials.specs.Adding.{added}
use Rattle.ps_bench_trials.specs.declared.drawing.Room.{Room}
use Rattle.ps_world.specs.Worlds.{Machines}
use Rattle.ps_bench_campaign.specs.Campaigns.{campaign}

-- what is counted of a campaign in two parts, the second of which goes on where the first ends, is what is counted of
-- each, added
abbrev pub PartsAreWhole : Type 0
PartsAreWhole = (net : Network) (m : Machines) (items : List Item) (room : Room) (from first second : ℕ) →
    campaign net m items room from (first + second)
    ≡ added (campaign net m items room from first) (campaign net m items room (from + first) second)
