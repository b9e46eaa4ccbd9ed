-- A world as its callers see it.
use Rattle.std.specs.Prelude.{◌≡◌, ℕ, false, List}
use Rattle.ps_model.specs.declared.channel.Channel.{Channel}
use Rattle.ps_model.specs.declared.channel.Region.{Region}
use Rattle.ps_model.specs.declared.sizes.Sizes.{Sizes}
use Rattle.ps_model.specs.Network.{Network}
use Rattle.ps_model.specs.Sized.{AreSizesOf}
use Rattle.ps_model.specs.Budgets.{turns_a, turns_b}
use Rattle.ps_machine.specs.Seats.{Seat_state}
use Rattle.ps_machine.specs.StoredChannel.{region_of}
use Rattle.ps_stackvm.specs.Channel.{machine_a}
use Rattle.ps_stackvm.specs.Code.{code_a}
use Rattle.ps_eqvm.specs.Channel.{machine_b}
use Rattle.ps_eqvm.specs.Code.{code_b}
use Rattle.ps_world.specs.Worlds.{Machines, World_state, Event, channel, world_0}
use Rattle.ps_world.specs.Steps.{world_step, after}

-- what never changes of a world: the sizes of the application, the code of both channels as compiled, and both budgets
-- of turns
pub record Setup : Type 0 where
  pub sizes : Sizes
  pub image_a : List ℕ
  pub image_b : List ℕ
  pub budget_a : ℕ
  pub budget_b : ℕ

-- a world: what never changes of it, and how it stands
pub record Whole : Type 0 where
  pub setup : Setup
  pub state : World_state

-- the machines of channels A and B with what never changes of a world
abbrev pub machines_in : Setup → Machines
machines_in s = record { a = machine_a s.sizes s.image_a s.budget_a; b = machine_b s.sizes s.image_b s.budget_b }

-- the bytes of a region of a channel, as they are stored
abbrev pub region_in : Channel → Region → Whole → List ℕ
region_in ch region w = region_of region (record { sizes = w.setup.sizes; code = (channel ch w.state).code; cells = (channel ch w.state).cells })

-- the world after an event
abbrev pub happened : Event → Whole → Whole
happened e w = record { setup = w.setup; state = world_step (machines_in w.setup) e w.state }

-- the world after these events
abbrev pub after_events : List Event → Whole → Whole
after_events es w = record { setup = w.setup; state = after (machines_in w.setup) es w.state }

-- the world of two seats, of which no scan is begun
abbrev pub whole_of : (a b : Seat_state) → Whole
whole_of a b = record {
  setup = record { sizes = a.sizes; image_a = a.image; image_b = b.image; budget_a = a.budget; budget_b = b.budget };
  state = record { a = a.channel; b = b.channel; last = 0; begun = false; tripped = false };
}

-- This never changes of an application's world: its sizes, its code as the two compilers make it, and the budgets of
-- its channels.
pub record IsSetupOf (net : Network) (s : Setup) : Type 0 where
  pub sizes : AreSizesOf net s.sizes
  pub image_a : s.image_a ≡ code_a net
  pub image_b : s.image_b ≡ code_b net
  pub budget_a : s.budget_a ≡ turns_a net
  pub budget_b : s.budget_b ≡ turns_b net

-- The world of an application at the beginning.
pub record IsWorldOf (net : Network) (w : Whole) : Type 0 where
  pub setup : IsSetupOf net w.setup
  pub beginning : w.state ≡ world_0 (machines_in w.setup)
