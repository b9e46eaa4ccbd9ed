-- The world of two channels: what it holds, and what its events are. What its two machines are is left open.
use Rattle.std.specs.Prelude.{ℕ, Bool, false, List}
use Rattle.ps_model.specs.declared.channel.Channel.{Channel}
use Rattle.ps_model.specs.declared.channel.Channel.TheVariants.{A, B}
use Rattle.ps_model.specs.declared.channel.Region.{Region}
use Rattle.ps_machine.specs.Machines.{Machine}
use Rattle.ps_machine.specs.Channels.{Channel_state, new_channel}

-- the machines of channels A and B
pub record Machines : Type 0 where
  pub a : Machine
  pub b : Machine

-- a world at one moment: both channels, the time of the last scan in ms, whether a scan is begun, and whether the world
-- is tripped
pub record World_state : Type 0 where
  pub a : Channel_state
  pub b : Channel_state
  pub last : ℕ
  pub begun : Bool
  pub tripped : Bool

-- an event, which is one atomic step
pub data Event : Type 0 where
  Begin : (now : ℕ) (ins : List Bool) → Event
  Turn : Channel → Event
  Spoil : (channel : Channel) (region : Region) (at : ℕ) (bytes : List ℕ) → Event
  Compare : Event
  Restart : Event

-- the machine of a channel
abbrev pub machine : Channel → Machines → Machine
machine A m = m.a
machine B m = m.b

-- a channel of a world
abbrev pub channel : Channel → World_state → Channel_state
channel A x = x.a
channel B x = x.b

-- the world at the beginning: both channels as compiled, no scan begun, not tripped
abbrev pub world_0 : Machines → World_state
world_0 m = record { a = new_channel m.a; b = new_channel m.b; last = 0; begun = false; tripped = false }
