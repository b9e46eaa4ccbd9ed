-- The world of three seats: what it holds, and what its events are. What its three machines are is left open.
use Rattle.std.specs.Prelude.{ℕ, Bool, true, false, ◌||◌, if◌then◌else◌, List, Option, None}
use Rattle.ps_model.specs.declared.channel.Region.{Region}
use Rattle.ps_machine.specs.Machines.{Machine}
use Rattle.ps_machine.specs.Channels.{Channel_state, new_channel}
use Rattle.ps_vote.specs.declared.seat.Seat.{Seat}
use Rattle.ps_vote.specs.declared.seat.Seat.TheVariants.{A, B, C}
use Rattle.ps_vote.specs.declared.seat.DirtySeats.{DirtySeats}

-- The machines of the three seats, and the cells of each seat that is rebuilt at a time from the cells of its source.
pub record Machines : Type 0 where
  pub a : Machine
  pub b : Machine
  pub c : Machine
  pub rebuilt_a : (t : ℕ) → (source : List ℕ) → List ℕ
  pub rebuilt_b : (t : ℕ) → (source : List ℕ) → List ℕ
  pub rebuilt_c : (t : ℕ) → (source : List ℕ) → List ℕ

-- a world at one moment: the channels of the seats and which of them are dirty, the time of the last scan in ms,
-- whether a scan is begun, and the outvoted seat or none
pub record World_state : Type 0 where
  pub a : Channel_state
  pub b : Channel_state
  pub c : Channel_state
  pub dirty : DirtySeats
  pub last : ℕ
  pub begun : Bool
  pub outvoted : Option Seat

-- an event, which is one atomic step
pub data Event : Type 0 where
  Begin : (now : ℕ) (ins : List Bool) → Event
  Turn : Seat → Event
  Spoil : (seat : Seat) (region : Region) (at : ℕ) (bytes : List ℕ) → Event
  TakeVote : Event
  Restart : Event
  Heal : Seat → Event

-- whether two seats are the same
abbrev pub is_same : Seat → Seat → Bool
is_same A A = true
is_same A B = false
is_same A C = false
is_same B A = false
is_same B B = true
is_same B C = false
is_same C A = false
is_same C B = false
is_same C C = true

-- the machine of a seat
abbrev pub machine : Seat → Machines → Machine
machine A m = m.a
machine B m = m.b
machine C m = m.c

-- the channel of a seat
abbrev pub channel : Seat → World_state → Channel_state
channel A x = x.a
channel B x = x.b
channel C x = x.c

-- the seat from which a seat is rebuilt
abbrev pub source : Seat → Seat
source A = C
source B = A
source C = A

-- the cells of a seat that is rebuilt at a time from these cells of its source
abbrev pub rebuilt : Seat → Machines → (t : ℕ) → List ℕ → List ℕ
rebuilt A m t cells = m.rebuilt_a t cells
rebuilt B m t cells = m.rebuilt_b t cells
rebuilt C m t cells = m.rebuilt_c t cells

-- whether a seat is marked as dirty
abbrev pub mark : Seat → DirtySeats → Bool
mark A d = d.a
mark B d = d.b
mark C d = d.c

-- whether another seat than this one is marked as dirty
abbrev pub is_another_dirty : Seat → DirtySeats → Bool
is_another_dirty A d = d.b || d.c
is_another_dirty B d = d.a || d.c
is_another_dirty C d = d.a || d.b

-- the marks with that of one seat new
abbrev pub marked : Seat → Bool → DirtySeats → DirtySeats
marked seat dirty d = record {
  a = if is_same A seat then dirty else d.a;
  b = if is_same B seat then dirty else d.b;
  c = if is_same C seat then dirty else d.c;
}

-- no seat is dirty
abbrev pub none_dirty : DirtySeats
none_dirty = record { a = false; b = false; c = false }

-- the world at the beginning: the seats as compiled, none dirty, no scan begun and none outvoted
abbrev pub world_0 : Machines → World_state
world_0 m = record { a = new_channel m.a; b = new_channel m.b; c = new_channel m.c; dirty = none_dirty; last = 0; begun = false; outvoted = None }
