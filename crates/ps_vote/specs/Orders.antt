-- The order of events in which `vote` and `heal` make their scans. Where a run `heals`, as that of `heal` does, a seat
-- that a vote outvotes is healed right after the vote, and a fault that is reached while another seat is dirty is not
-- done and ends the run.
use Rattle.std.specs.Prelude.{ℕ, zero, suc, ◌+◌, Bool, ◌==◌, ◌&&◌, if◌then◌else◌, List, [], ◌∷◌, ◌++◌, map, Option}
use Rattle.std.specs.Prelude.{Some, None, Result, Ok, Err}
use Rattle.std.specs.List.{filter}
use Rattle.ps_model.specs.Meaning.{Item, scan, restart}
use Rattle.ps_machine.specs.Channels.{ended}
use Rattle.ps_vote.specs.declared.faults.VoteFault.{VoteFault}
use Rattle.ps_vote.specs.declared.seat.Seat.{Seat}
use Rattle.ps_vote.specs.declared.seat.Seat.TheVariants.{A, B, C}
use Rattle.ps_vote.specs.declared.seat.Vote.{Vote}
use Rattle.ps_vote.specs.declared.seat.Vote.TheVariants.{All, Two, Split}
use Rattle.ps_vote.specs.Worlds.{Machines, World_state, Event, Begin, Turn, Spoil, TakeVote, Restart, Heal, machine}
use Rattle.ps_vote.specs.Worlds.{channel, is_another_dirty, world_0}
use Rattle.ps_vote.specs.Votes.{vote}
use Rattle.ps_vote.specs.Steps.{world_step, after, all_ended}

-- the faults of a scan, in the order of the fault file
abbrev pub of_scan : ℕ → List VoteFault → List VoteFault
of_scan number faults = filter (λ f. f.scan == number) faults

-- the faults that come before a turn, in the order of the fault file; those with turn 0 come before the Begin
abbrev pub of_turn : ℕ → List VoteFault → List VoteFault
of_turn turn faults = filter (λ f. f.turn == turn) faults

-- the Spoil that a fault asks for
abbrev pub spoil_of : VoteFault → Event
spoil_of f = Spoil f.seat f.region f.at f.bytes

-- ---- Paths.

-- Events up to a moment, and the fault at which they end, if there is one: it is not done.
pub record Path : Type 0 where
  pub events : List Event
  pub refused : Option VoteFault

-- nothing more comes
abbrev pub no_more : Path
no_more = record { events = []; refused = None }

-- an event, and a path after it
abbrev pub first : Event → Path → Path
first e p = record { events = e ∷ p.events; refused = p.refused }

-- these events, and a path after them unless they end at a fault
abbrev pub unless_refused : Option VoteFault → List Event → Path → Path
unless_refused None es later = record { events = es ++ later.events; refused = later.refused }
unless_refused (Some f) es later = record { events = es; refused = Some f }

-- a path from this world, and after it the one from the world to which it leads, unless it ends at a fault
abbrev pub followed : Machines → World_state → Path → (World_state → Path) → Path
followed m x p later = unless_refused p.refused p.events (later (after m p.events x))

-- ---- A scan.

-- the Spoils that these faults ask for, in their order; a run that heals ends at a fault that is reached while another
-- seat is dirty
abbrev pub spoils : (heals : Bool) → Machines → List VoteFault → World_state → Path
spoils heals m [] x = no_more
spoils heals m (f ∷ faults) x =
    if heals && is_another_dirty f.seat x.dirty then record { events = []; refused = Some f }
    else first (spoil_of f) (spoils heals m faults (world_step m (spoil_of f) x))

-- the seat after another, in the rotation A, B, C and A again
abbrev pub seat_after : Seat → Seat
seat_after A = B
seat_after B = C
seat_after C = A

-- the seat from which the rotation is counted: A where the scan had no turn, and else the one after the seat that had
-- the last turn
abbrev pub in_turn : Option Seat → Seat
in_turn None = A
in_turn (Some seat) = seat_after seat

-- this seat where it has not ended, and else the other one
abbrev pub unless_ended : Machines → World_state → Seat → (other : Seat) → Seat
unless_ended m x seat other = if ended (machine seat m) (channel seat x) then other else seat

-- the seat that has the next turn: the first that has not ended, in the rotation from this seat on
abbrev pub next_from : Machines → Seat → World_state → Seat
next_from m seat x = unless_ended m x seat (unless_ended m x (seat_after seat) (seat_after (seat_after seat)))

-- the seat that has the next turn
abbrev pub next_turn : Machines → (last : Option Seat) → World_state → Seat
next_turn m last x = next_from m (in_turn last) x

-- The turns of a scan of which so many are done, the last one by this seat: the Spoils before the next turn, and that
-- turn, until all three seats have ended. At most so many turns are left.
abbrev pub turns : (heals : Bool) → Machines → List VoteFault → (left done : ℕ) → (last : Option Seat) → World_state → Path
turns heals m faults zero done last x = spoils heals m (of_turn (done + 1) faults) x
turns heals m faults (suc left) done last x = followed m x (spoils heals m (of_turn (done + 1) faults) x) (λ y.
    if all_ended m y then no_more
    else first (Turn (next_turn m last y)) (turns heals m faults left (done + 1) (Some (next_turn m last y)) (world_step m (Turn (next_turn m last y)) y)))

-- the most turns of a scan
abbrev pub most_turns : Machines → ℕ
most_turns m = m.a.budget + m.b.budget + m.c.budget

-- a scan up to its vote, with the faults of this scan: the Spoils before it, Begin, and its turns
abbrev pub path_to_vote : (heals : Bool) → Machines → List VoteFault → (now : ℕ) (ins : List Bool) → World_state → Path
path_to_vote heals m faults now ins x = followed m x (spoils heals m (of_turn 0 faults) x) (λ y.
    first (Begin now ins) (turns heals m faults (most_turns m) 0 None (world_step m (Begin now ins) y)))

-- the world at the vote of a scan, or at the fault at which it ends
abbrev pub at_vote : (heals : Bool) → Machines → List VoteFault → (now : ℕ) (ins : List Bool) → World_state → World_state
at_vote heals m faults now ins x = after m (path_to_vote heals m faults now ins x).events x

-- what comes after a vote: a run that heals heals the seat that it outvotes
abbrev pub behind_vote : (heals : Bool) → Vote → List Event
behind_vote heals All = []
behind_vote heals (Two seat) = if heals then Heal seat ∷ [] else []
behind_vote heals Split = []

-- how a scan closes in this world
abbrev pub closing : (heals : Bool) → Machines → World_state → List Event
closing heals m x = TakeVote ∷ behind_vote heals (vote m x)

-- a scan, with the faults of this scan
abbrev pub path_of_scan : (heals : Bool) → Machines → List VoteFault → (now : ℕ) (ins : List Bool) → World_state → Path
path_of_scan heals m faults now ins x =
    followed m x (path_to_vote heals m faults now ins x) (λ y. record { events = closing heals m y; refused = None })

-- what a path answers: nothing, or the line of the fault at which it ends
abbrev pub path_answer : Option VoteFault → Result (Unit {0}) ℕ
path_answer None = Ok tt
path_answer (Some f) = Err f.line

-- what a scan answers: its vote, or the line of the fault at which it ends
abbrev pub scan_answer : Option VoteFault → Vote → Result Vote ℕ
scan_answer None v = Ok v
scan_answer (Some f) v = Err f.line

-- ---- A run.

-- What a run comes to: the world at the vote of each scan that was closed, the items that were done, the events, and
-- the fault at which it ends, if there is one.
pub record Course : Type 0 where
  pub votes : List World_state
  pub done : List Item
  pub events : List Event
  pub refused : Option VoteFault

-- a restart, and what comes after it
abbrev pub restarted : Course → Course
restarted later = record { votes = later.votes; done = restart ∷ later.done; events = Restart ∷ later.events; refused = later.refused }

-- a scan with these events and this world at its vote, and what comes after it; one that ends at a fault ends the run
abbrev pub scanned : Option VoteFault → (item : Item) → (es : List Event) → (at : World_state) → Course → Course
scanned None item es at later = record { votes = at ∷ later.votes; done = item ∷ later.done; events = es ++ later.events; refused = later.refused }
scanned (Some f) item es at later = record { votes = []; done = []; events = es; refused = Some f }

-- what a run comes to over these items, of which the first scan has this number, from this world on
abbrev pub course_from : (heals : Bool) → Machines → List VoteFault → (number : ℕ) → List Item → World_state → Course
course_from heals m faults number [] x = record { votes = []; done = []; events = []; refused = None }
course_from heals m faults number (restart ∷ items) x = restarted (course_from heals m faults number items (world_step m Restart x))
course_from heals m faults number (scan now ins ∷ items) x =
    let due = of_scan number faults in
    let p = path_of_scan heals m due now ins x in
    scanned p.refused (scan now ins) p.events (at_vote heals m due now ins x) (course_from heals m faults (suc number) items (after m p.events x))

-- what a run comes to: scans are counted from 1 over all items, across restarts
abbrev pub course : (heals : Bool) → Machines → List Item → List VoteFault → Course
course heals m items faults = course_from heals m faults 1 items (world_0 m)

-- a scan with this number and this vote, in front of those of the later scans whose vote is Two
abbrev pub onto_outvoted : (number : ℕ) → Vote → List (ℕ × Seat) → List (ℕ × Seat)
onto_outvoted number All later = later
onto_outvoted number (Two seat) later = (number, seat) ∷ later
onto_outvoted number Split later = later

-- of scans with these votes, of which the first has this number, those whose vote is Two, each with its seat
abbrev pub outvoted_from : (number : ℕ) → List Vote → List (ℕ × Seat)
outvoted_from number [] = []
outvoted_from number (v ∷ vs) = onto_outvoted number v (outvoted_from (suc number) vs)

-- the scans of a run whose vote is Two, each with its seat
abbrev pub outvoted : (heals : Bool) → Machines → List Item → List VoteFault → List (ℕ × Seat)
outvoted heals m items faults = outvoted_from 1 (map (vote m) (course heals m items faults).votes)
