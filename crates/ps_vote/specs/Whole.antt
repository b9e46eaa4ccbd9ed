-- A world of three seats as its callers see it.
use Rattle.std.specs.Prelude.{◌≡◌, ℕ, List, map}
use Rattle.std.specs.List.{range_with_len}
use Rattle.ps_model.specs.declared.sizes.Sizes.{Sizes}
use Rattle.ps_model.specs.Network.{Network, instance_count}
use Rattle.ps_model.specs.Sized.{AreSizesOf}
use Rattle.ps_model.specs.Budgets.{turns_a, turns_b}
use Rattle.ps_machine.specs.Standing.{limit_in}
use Rattle.ps_stackvm.specs.Channel.{machine_a}
use Rattle.ps_stackvm.specs.Code.{code_a}
use Rattle.ps_eqvm.specs.Channel.{machine_b}
use Rattle.ps_eqvm.specs.Code.{code_b}
use Rattle.ps_decision.specs.Budget.{turns_c}
use Rattle.ps_decision.specs.Channel.{machine_c}
use Rattle.ps_decision.specs.Code.{code_c}
use Rattle.ps_machine.specs.Channels.{remade}
use Rattle.ps_vote.specs.declared.seat.Seat.{Seat}
use Rattle.ps_vote.specs.Worlds.{Machines, World_state, Event, machine, channel, world_0}
use Rattle.ps_vote.specs.Steps.{with_channel, healing, world_step, after}
use Rattle.ps_vote.specs.Healing.{rebuilt_a, rebuilt_b, rebuilt_c}

-- what never changes of a world: the sizes of the application and the limits of its instances in ms, the code of the
-- seats as compiled, and their budgets of turns
pub record Setup : Type 0 where
  pub sizes : Sizes
  pub limits : List ℕ
  pub image_a : List ℕ
  pub image_b : List ℕ
  pub image_c : List ℕ
  pub budget_a : ℕ
  pub budget_b : ℕ
  pub budget_c : ℕ

-- a world: what never changes of it, and how it stands
pub record Whole : Type 0 where
  pub setup : Setup
  pub state : World_state

-- the machines of the seats with what never changes of a world
abbrev pub machines_in : Setup → Machines
machines_in s = record {
  a = machine_a s.sizes s.image_a s.budget_a;
  b = machine_b s.sizes s.image_b s.budget_b;
  c = machine_c s.sizes s.image_c s.budget_c;
  rebuilt_a = rebuilt_a s.sizes;
  rebuilt_b = rebuilt_b s.sizes s.limits;
  rebuilt_c = rebuilt_c s.sizes;
}

-- the world after an event
abbrev pub happened : Event → Whole → Whole
happened e w = record { setup = w.setup; state = world_step (machines_in w.setup) e w.state }

-- the world after these events
abbrev pub after_events : List Event → Whole → Whole
after_events es w = record { setup = w.setup; state = after (machines_in w.setup) es w.state }

-- the world with the channel of a seat rebuilt, and all else as it was
abbrev pub with_rebuilt : Seat → Whole → Whole
with_rebuilt seat w =
    let m = machines_in w.setup in
    record { setup = w.setup; state = with_channel seat (remade (machine seat m) (healing m seat w.state) (channel seat w.state)) w.state }

-- the limits of an application's instances in ms, in order
abbrev pub limits_of : Network → List ℕ
limits_of net = map (limit_in net) (range_with_len 0 (instance_count net))

-- This never changes of an application's world: its sizes and limits, its code as the three compilers make it, and the
-- budgets of its seats.
pub record IsSetupOf (net : Network) (s : Setup) : Type 0 where
  pub sizes : AreSizesOf net s.sizes
  pub limits : s.limits ≡ limits_of net
  pub image_a : s.image_a ≡ code_a net
  pub image_b : s.image_b ≡ code_b net
  pub image_c : s.image_c ≡ code_c net
  pub budget_a : s.budget_a ≡ turns_a net
  pub budget_b : s.budget_b ≡ turns_b net
  pub budget_c : s.budget_c ≡ turns_c net

-- The world of an application at the beginning.
pub record IsWorldOf (net : Network) (w : Whole) : Type 0 where
  pub setup : IsSetupOf net w.setup
  pub beginning : w.state ≡ world_0 (machines_in w.setup)
