-- A seat of a world: a channel with what never changes of it.
use Rattle.std.specs.Prelude.{◌≡◌, ◌<◌, ℕ, true, false, List}
use Rattle.ps_model.specs.declared.sizes.Sizes.{Sizes}
use Rattle.ps_machine.specs.Machines.{Workings, Machine, machine_of, turned}
use Rattle.ps_machine.specs.Channels.{Channel_state, Own, makes_turn, meets, new_channel, ended}
use Rattle.ps_machine.specs.StoredChannel.{Stored}

-- the sizes of the application, the code as compiled and the budget of turns, and the channel as it is now
pub record Seat_state : Type 0 where
  pub sizes : Sizes
  pub image : List ℕ
  pub budget : ℕ
  pub channel : Channel_state

-- the machine that a seat runs
abbrev pub machine_in : (Sizes → Workings) → Seat_state → Machine
machine_in workings s = machine_of (workings s.sizes) s.image s.budget

-- the seat after an event of its channel's own: all but the channel stays
abbrev pub meeting : (Sizes → Workings) → Own → Seat_state → Seat_state
meeting workings e s = record { sizes = s.sizes; image = s.image; budget = s.budget; channel = meets (machine_in workings s) e s.channel }

-- the seat at the beginning: the code as compiled, blank cells and no turns
abbrev pub new_seat : (Sizes → Workings) → Sizes → (image : List ℕ) → (budget : ℕ) → Seat_state
new_seat workings sizes image budget =
    record { sizes = sizes; image = image; budget = budget; channel = new_channel (machine_of (workings sizes) image budget) }

-- the channel as it is stored
abbrev pub stored_in : Seat_state → Stored
stored_in s = record { sizes = s.sizes; code = s.channel.code; cells = s.channel.cells }

-- Two seats of one application: they have its sizes, the same code as compiled and the same budget.
pub record AreOfOne (s t : Seat_state) : Type 0 where
  pub sizes : s.sizes ≡ t.sizes
  pub image : s.image ≡ t.image
  pub budget : s.budget ≡ t.budget

-- the seat after so many turns, one after another
abbrev pub after_turns : (Sizes → Workings) → ℕ → Seat_state → Seat_state
after_turns workings k s = turned (meeting workings makes_turn) k s

-- A seat that made the turns that were left of its scan: each was of a channel that had not ended, and now it has.
pub record Finishes (workings : Sizes → Workings) (old new : Seat_state) : Type 0 where
  pub turns : ℕ
  pub is_after : new ≡ after_turns workings turns old
  pub each : (j : ℕ) → j < turns → ended (machine_in workings old) (after_turns workings j old).channel ≡ false
  pub over : ended (machine_in workings old) new.channel ≡ true
