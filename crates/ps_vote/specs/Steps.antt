-- What each event makes of a world of three seats, and under which condition it may come.
use Rattle.std.specs.Prelude.{◌≡◌, ◌≤◌, ◌<◌, ◌^◌, ◌+◌, ℕ, Bool, true, false, not, nat_lt, if◌then◌else◌, ◌&&◌, List, []}
use Rattle.std.specs.Prelude.{◌∷◌, length, Some, None}
use Rattle.ps_model.specs.declared.channel.Region.{Region}
use Rattle.ps_model.specs.declared.channel.Region.TheVariants.{Code, Cells}
use Rattle.ps_machine.specs.Channels.{Channel_state, at_begin, after_turn, after_strike, new_channel, remade, ended}
use Rattle.ps_vote.specs.declared.seat.Seat.{Seat}
use Rattle.ps_vote.specs.declared.seat.Seat.TheVariants.{A, B, C}
use Rattle.ps_vote.specs.Worlds.{Machines, World_state, Event, Begin, Turn, Spoil, TakeVote, Restart, Heal, is_same}
use Rattle.ps_vote.specs.Worlds.{machine, channel, source, rebuilt, mark, marked, none_dirty}
use Rattle.ps_vote.specs.Votes.{vote, outvoted_by}

-- the world with another state of one seat's channel, and all else as it was
abbrev pub with_channel : Seat → Channel_state → World_state → World_state
with_channel seat s x = record {
  a = if is_same A seat then s else x.a;
  b = if is_same B seat then s else x.b;
  c = if is_same C seat then s else x.c;
  dirty = x.dirty;
  last = x.last;
  begun = x.begun;
  outvoted = x.outvoted;
}

-- the bytes of a region of a channel
abbrev pub region_in : Region → Channel_state → List ℕ
region_in Code s = s.code
region_in Cells s = s.cells

-- bytes at a place are in region where they end at the region's end at the latest
abbrev pub is_in_region : Region → (at : ℕ) → (bytes : List ℕ) → Channel_state → Bool
is_in_region region at bytes s = not (nat_lt (length (region_in region s)) (at + length bytes))

-- the cells of a seat that is rebuilt now: its source's cells, at the time of the last scan
abbrev pub healing : Machines → Seat → World_state → List ℕ
healing m seat x = rebuilt seat m x.last (channel (source seat) x).cells

-- the world with these marks of dirty seats
abbrev pub with_dirty : (x : World_state) → (seat : Seat) → Bool → World_state
with_dirty x seat dirty = record { a = x.a; b = x.b; c = x.c; dirty = marked seat dirty x.dirty; last = x.last; begun = x.begun; outvoted = x.outvoted }

-- the world with no seat outvoted
abbrev pub with_none_out : World_state → World_state
with_none_out x = record { a = x.a; b = x.b; c = x.c; dirty = x.dirty; last = x.last; begun = x.begun; outvoted = None }

-- the world after an event
abbrev pub world_step : Machines → Event → World_state → World_state
world_step m (Begin now ins) x = record {
  a = at_begin m.a now ins x.a;
  b = at_begin m.b now ins x.b;
  c = at_begin m.c now ins x.c;
  dirty = x.dirty;
  last = now;
  begun = true;
  outvoted = None;
}
world_step m (Turn seat) x = with_channel seat (after_turn (machine seat m) (channel seat x)) x
world_step m (Spoil seat region at bytes) x =
    with_dirty (with_channel seat (after_strike region at bytes (channel seat x)) x) seat
    (if is_in_region region at bytes (channel seat x) then true else mark seat x.dirty)
world_step m TakeVote x = record { a = x.a; b = x.b; c = x.c; dirty = x.dirty; last = x.last; begun = false; outvoted = outvoted_by (vote m x) }
world_step m Restart x = record { a = new_channel m.a; b = new_channel m.b; c = new_channel m.c; dirty = none_dirty; last = x.last; begun = false; outvoted = None }
world_step m (Heal seat) x = with_none_out (with_dirty (with_channel seat (remade (machine seat m) (healing m seat x) (channel seat x)) x) seat false)

-- the world after these events
abbrev pub after : Machines → List Event → World_state → World_state
after m [] x = x
after m (e ∷ es) x = after m es (world_step m e x)

-- all three seats have ended
abbrev pub all_ended : Machines → World_state → Bool
all_ended m x = ended m.a x.a && ended m.b x.b && ended m.c x.c

-- The condition of an event, in a world of an application with so many inputs.
abbrev pub May : Machines → (inputs : ℕ) → Event → World_state → Type 0
May m inputs (Begin now ins) x = (x.begun ≡ false) × (x.last ≤ now) × (now < 2 ^ 32) × (length ins ≡ inputs)
May m inputs (Turn seat) x = (x.begun ≡ true) × (ended (machine seat m) (channel seat x) ≡ false)
May m inputs (Spoil seat region at bytes) x = Unit {0}
May m inputs TakeVote x = (x.begun ≡ true) × (all_ended m x ≡ true)
May m inputs Restart x = x.begun ≡ false
May m inputs (Heal seat) x = x.outvoted ≡ Some seat

-- each event's condition holds at its place
abbrev pub Lawful : Machines → (inputs : ℕ) → List Event → World_state → Type 0
Lawful m inputs [] x = Unit {0}
Lawful m inputs (e ∷ es) x = May m inputs e x × Lawful m inputs es (world_step m e x)
