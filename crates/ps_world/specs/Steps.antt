-- What each event makes of a world, and under which condition it may come.
use Rattle.std.specs.Prelude.{◌≡◌, ◌≤◌, ◌<◌, ◌^◌, ℕ, Bool, true, false, ◌&&◌, ◌||◌, List, [], ◌∷◌, length}
use Rattle.ps_model.specs.declared.channel.Channel.{Channel}
use Rattle.ps_model.specs.declared.channel.Channel.TheVariants.{A, B}
use Rattle.ps_machine.specs.Channels.{Channel_state, at_begin, after_turn, after_strike, new_channel, ended}
use Rattle.ps_world.specs.Worlds.{Machines, World_state, Event, Begin, Turn, Spoil, Compare, Restart, machine, channel}
use Rattle.ps_world.specs.Verdicts.{verdict, is_trip}

-- channel A of a world in which this channel has become new
abbrev pub new_a : Channel → (new old : Channel_state) → Channel_state
new_a A new old = new
new_a B new old = old

-- channel B of it
abbrev pub new_b : Channel → (new old : Channel_state) → Channel_state
new_b A new old = old
new_b B new old = new

-- the world with another state of one channel, and all else as it was
abbrev pub with_channel : Channel → Channel_state → World_state → World_state
with_channel ch s x = record { a = new_a ch s x.a; b = new_b ch s x.b; last = x.last; begun = x.begun; tripped = x.tripped }

-- the world after an event
abbrev pub world_step : Machines → Event → World_state → World_state
world_step m (Begin now ins) x = record { a = at_begin m.a now ins x.a; b = at_begin m.b now ins x.b; last = now; begun = true; tripped = x.tripped }
world_step m (Turn ch) x = with_channel ch (after_turn (machine ch m) (channel ch x)) x
world_step m (Spoil ch region at bytes) x = with_channel ch (after_strike region at bytes (channel ch x)) x
world_step m Compare x = record { a = x.a; b = x.b; last = x.last; begun = false; tripped = is_trip (verdict m x) }
world_step m Restart x = record { a = new_channel m.a; b = new_channel m.b; last = x.last; begun = false; tripped = false }

-- the world after these events
abbrev pub after : Machines → List Event → World_state → World_state
after m [] x = x
after m (e ∷ es) x = after m es (world_step m e x)

-- both channels have ended
abbrev pub both_ended : Machines → World_state → Bool
both_ended m x = ended m.a x.a && ended m.b x.b

-- The condition of an event, in a world of an application with so many inputs.
abbrev pub May : Machines → (inputs : ℕ) → Event → World_state → Type 0
May m inputs (Begin now ins) x = (x.begun ≡ false) × (x.tripped ≡ false) × (x.last ≤ now) × (now < 2 ^ 32) × (length ins ≡ inputs)
May m inputs (Turn ch) x = (x.begun ≡ true) × (ended (machine ch m) (channel ch x) ≡ false)
May m inputs (Spoil ch region at bytes) x = Unit {0}
May m inputs Compare x = (x.tripped || (x.begun && both_ended m x)) ≡ true
May m inputs Restart x = x.begun ≡ false

-- each event's condition holds at its place
abbrev pub Lawful : Machines → (inputs : ℕ) → List Event → World_state → Type 0
Lawful m inputs [] x = Unit {0}
Lawful m inputs (e ∷ es) x = May m inputs e x × Lawful m inputs es (world_step m e x)
