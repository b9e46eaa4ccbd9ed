-- One channel: its bytes and turn count, its own events, and when it has ended. Worlds of two and three channels are
-- made of these.
use Rattle.std.specs.Prelude.{ℕ, ◌+◌, Bool, ◌||◌, not, nat_le, List, [], ◌∷◌}
use Rattle.ps_model.specs.declared.channel.Region.{Region}
use Rattle.ps_model.specs.declared.channel.Region.TheVariants.{Code, Cells}
use Rattle.ps_machine.specs.Bytes.{overwritten}
use Rattle.ps_machine.specs.Machines.{Machine}
use Rattle.ps_machine.specs.Progressing.{is_running}

-- a channel at one moment: its code and cells as they are stored, and how many turns it has made in this scan
pub record Channel_state : Type 0 where
  pub code : List ℕ
  pub cells : List ℕ
  pub turns : ℕ

-- What concerns one channel: a scan begins, the channel makes a turn, bytes of a region are replaced, the scan closes,
-- the channel starts anew, and it is remade with cells that were made for it.
pub data Own : Type 0 where
  begins : (now : ℕ) (ins : List Bool) → Own
  makes_turn : Own
  struck : (region : Region) (at : ℕ) (bytes : List ℕ) → Own
  closes : Own
  restarts : Own
  is_remade : (cells : List ℕ) → Own

-- the Begin of a scan, before its first turn
abbrev pub at_begin : Machine → (now : ℕ) (ins : List Bool) → Channel_state → Channel_state
at_begin m now ins s = record { code = s.code; cells = m.begin now ins s.cells; turns = 0 }

-- one turn, which is counted
abbrev pub after_turn : Machine → Channel_state → Channel_state
after_turn m s = record { code = s.code; cells = m.turn s.code s.cells; turns = s.turns + 1 }

-- bytes in region are replaced, and what is out of region changes nothing
abbrev pub after_strike : Region → (at : ℕ) (bytes : List ℕ) → Channel_state → Channel_state
after_strike Code at bytes s = record { code = overwritten s.code at bytes; cells = s.cells; turns = s.turns }
after_strike Cells at bytes s = record { code = s.code; cells = overwritten s.cells at bytes; turns = s.turns }

-- as at the start: the code as compiled and blank cells
abbrev pub new_channel : Machine → Channel_state
new_channel m = record { code = m.image; cells = m.blank; turns = 0 }

-- the code as compiled and these cells, with the turn count as it was
abbrev pub remade : Machine → (cells : List ℕ) → Channel_state → Channel_state
remade m cells s = record { code = m.image; cells = cells; turns = s.turns }

-- the channel after an event of its own; the end of a scan changes nothing in it
abbrev pub meets : Machine → Own → Channel_state → Channel_state
meets m (begins now ins) s = at_begin m now ins s
meets m makes_turn s = after_turn m s
meets m (struck region at bytes) s = after_strike region at bytes s
meets m closes s = s
meets m restarts s = new_channel m
meets m (is_remade cells) s = remade m cells s

-- the channel after its own events alone
abbrev pub alone : Machine → List Own → Channel_state → Channel_state
alone m [] s = s
alone m (e ∷ es) s = alone m es (meets m e s)

-- a channel has ended where it does not run, or has spent its budget of turns
abbrev pub ended : Machine → Channel_state → Bool
ended m s = not (is_running (m.progress s.cells)) || nat_le m.budget s.turns
