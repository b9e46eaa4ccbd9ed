-- The order of events in which a run makes its scans.
use Rattle.std.specs.Prelude.{ℕ, zero, suc, ◌+◌, Bool, ◌==◌, if◌then◌else◌, List, [], ◌∷◌, ◌++◌, map, Option, Some}
use Rattle.std.specs.Prelude.{None}
use Rattle.std.specs.List.{filter}
use Rattle.ps_model.specs.declared.channel.Channel.{Channel}
use Rattle.ps_model.specs.declared.channel.Channel.TheVariants.{A, B}
use Rattle.ps_model.specs.declared.channel.Fault.{Fault}
use Rattle.ps_model.specs.declared.channel.Verdict.{Verdict}
use Rattle.ps_model.specs.declared.channel.Verdict.TheVariants.{Released, Tripped, Down}
use Rattle.ps_model.specs.declared.channel.Cause.{Cause}
use Rattle.ps_model.specs.Meaning.{Item, scan, restart}
use Rattle.ps_machine.specs.Channels.{ended}
use Rattle.ps_world.specs.Worlds.{Machines, World_state, Event, Begin, Turn, Spoil, Compare, Restart, machine, channel}
use Rattle.ps_world.specs.Worlds.{world_0}
use Rattle.ps_world.specs.Verdicts.{verdict}
use Rattle.ps_world.specs.Steps.{world_step, after, both_ended}

-- the faults of a scan, in the order of the fault file
abbrev pub of_scan : ℕ → List Fault → List Fault
of_scan number faults = filter (λ f. f.scan == number) faults

-- the Spoil that a fault asks for
abbrev pub spoil_of : Fault → Event
spoil_of f = Spoil f.channel f.region f.at f.bytes

-- the Spoils that come before a turn, in the order of the fault file; those with turn 0 come before the Begin
abbrev pub spoils_before : ℕ → List Fault → List Event
spoils_before turn faults = map spoil_of (filter (λ f. f.turn == turn) faults)

-- the other channel
abbrev pub other : Channel → Channel
other A = B
other B = A

-- the channel whose turn it would be: A at first, and later that which did not have the last turn
abbrev pub in_turn : Option Channel → Channel
in_turn None = A
in_turn (Some ch) = other ch

-- the channel that has the next turn: the other one where that one has ended
abbrev pub next_turn : Machines → Option Channel → World_state → Channel
next_turn m last x = if ended (machine (in_turn last) m) (channel (in_turn last) x) then other (in_turn last) else in_turn last

-- The events from the moment at which so many turns of the scan are done, up to its Compare: the Spoils before the next
-- turn, and that turn, until both channels have ended. At most so many turns are left.
abbrev pub turn_events : Machines → List Fault → (left done : ℕ) → Option Channel → World_state → List Event
turn_events m faults zero done last x = spoils_before (done + 1) faults
turn_events m faults (suc left) done last x =
    let y = after m (spoils_before (done + 1) faults) x in
    let ch = next_turn m last y in
    spoils_before (done + 1) faults
    ++ (if both_ended m y then [] else Turn ch ∷ turn_events m faults left (done + 1) (Some ch) (world_step m (Turn ch) y))

-- the events of a scan up to its Compare, with the faults of this scan; in a tripped world there are none
abbrev pub events_before_compare : Machines → List Fault → (now : ℕ) (ins : List Bool) → World_state → List Event
events_before_compare m faults now ins x =
    if x.tripped then [] else
    spoils_before 0 faults ++ (Begin now ins ∷ turn_events m faults (m.a.budget + m.b.budget) 0 None (world_step m (Begin now ins) (after m (spoils_before 0 faults) x)))

-- the world at the Compare of a scan
abbrev pub at_compare : Machines → List Fault → (now : ℕ) (ins : List Bool) → World_state → World_state
at_compare m faults now ins x = after m (events_before_compare m faults now ins x) x

-- the events of a scan
abbrev pub scan_events : Machines → List Fault → (now : ℕ) (ins : List Bool) → World_state → List Event
scan_events m faults now ins x = events_before_compare m faults now ins x ++ Compare ∷ []

-- the events of a run over these items, of which the first scan has this number
abbrev pub run_events : Machines → List Fault → (number : ℕ) → List Item → World_state → List Event
run_events m faults number [] x = []
run_events m faults number (restart ∷ items) x = Restart ∷ run_events m faults number items (world_step m Restart x)
run_events m faults number (scan now ins ∷ items) x =
    let es = scan_events m (of_scan number faults) now ins x in
    es ++ run_events m faults (suc number) items (after m es x)

-- the events of a run: scans are counted from 1 over all items, across restarts
abbrev pub events : Machines → List Item → List Fault → List Event
events m items faults = run_events m faults 1 items (world_0 m)

-- the verdicts of the scans among these items, in order, of which the first scan has this number
abbrev pub verdicts : Machines → List Fault → (number : ℕ) → List Item → World_state → List Verdict
verdicts m faults number [] x = []
verdicts m faults number (restart ∷ items) x = verdicts m faults number items (world_step m Restart x)
verdicts m faults number (scan now ins ∷ items) x =
    verdict m (at_compare m (of_scan number faults) now ins x)
    ∷ verdicts m faults (suc number) items (after m (scan_events m (of_scan number faults) now ins x) x)

-- the scans of these verdicts that trip, by number, each with its cause
abbrev pub tripped_from : (number : ℕ) → List Verdict → List (ℕ × Cause)
tripped_from number [] = []
tripped_from number (Tripped cause ∷ vs) = (number, cause) ∷ tripped_from (suc number) vs
tripped_from number (Released ∷ vs) = tripped_from (suc number) vs
tripped_from number (Down ∷ vs) = tripped_from (suc number) vs

-- the scans of a run whose Compare is Tripped, each with its cause
abbrev pub trips : Machines → List Item → List Fault → List (ℕ × Cause)
trips m items faults = tripped_from 1 (verdicts m faults 1 items (world_0 m))
