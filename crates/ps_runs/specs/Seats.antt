-- What a world of three seats that faults strike makes of the items of a trace, and what a run in it comes to.
use Rattle.std.specs.Prelude.{◌≡◌, ◌⊎◌, ◌≤◌, ◌<◌, ℕ, suc, Bool, false, List, [], ◌∷◌, ◌++◌, take, drop, length}
use Rattle.std.specs.Prelude.{All, Option, Some, None, Result, map}
use Rattle.std.specs.List.Sorted.{IsNonDecreasingBy}
use Rattle.ps_base.specs.declared.failing.Refusal.{Refusal}
use Rattle.ps_base.specs.declared.failing.Rule.TheVariants.{F4}
use Rattle.ps_model.specs.Network.{Network, instance_count}
use Rattle.ps_model.specs.Meaning.{Item, scan, restart}
use Rattle.ps_trace.specs.FaultOrder.{StrikeInOrder, StrikeOne}
use Rattle.ps_trace.specs.Scans.{Scans, End}
use Rattle.ps_trace.specs.Scans.End.{refused}
use Rattle.ps_vote.specs.declared.faults.VoteFault.{VoteFault}
use Rattle.ps_vote.specs.declared.seat.Seat.{Seat}
use Rattle.ps_vote.specs.declared.seat.Vote.{Vote}
use Rattle.ps_vote.specs.Faults.{line_of_fault}
use Rattle.ps_vote.specs.Worlds.{Machines, World_state, Restart}
use Rattle.ps_vote.specs.Votes.{vote, report_given}
use Rattle.ps_vote.specs.Whole.{Whole, machines_in, happened, after_events, IsSetupOf, IsWorldOf}
use Rattle.ps_vote.specs.Orders.{Path, Course, of_scan, at_vote, path_of_scan, course_from}
use Rattle.ps_runs.specs.Again.{again_among, first_again, healed_by}
use Rattle.ps_runs.specs.Outcomes.{Outcome, performed, refuses, anew, vote_lines}
use Rattle.ps_runs.specs.Written.{HasEnded, WritesLines}
use Rattle.ps_runs.specs.declared.items.Cut.{Cut}
use Rattle.ps_runs.specs.declared.seats.Again.{Again}
use Rattle.ps_runs.specs.declared.seats.StruckSeats.{StruckSeats}

-- the faults that are still to come
abbrev pub to_come : StruckSeats → List VoteFault
to_come p = drop p.next p.faults

-- The world is that of the application, no scan is begun in it, and the faults that are still to come are those of
-- later scans, in order.
pub record AreStruckSeatsFor (net : Network) (p : StruckSeats) : Type 0 where
  pub setup : IsSetupOf net p.world.setup
  pub rest : p.world.state.begun ≡ false
  pub within : p.next ≤ length p.faults
  pub ordered : IsNonDecreasingBy (λ (f : VoteFault). f.scan) (to_come p)
  pub later : All (λ f. p.scans < f.scan) (to_come p)

-- A run is at its beginning: its world is that of the application, no scan was made and no seat healed, and its faults
-- come in order; those of a run that heals none strike one seat. Those of a scan 0 are passed over.
pub record AreAtBeginning (net : Network) (p : StruckSeats) : Type 0 where
  pub world : IsWorldOf net p.world
  pub none_made : p.scans ≡ 0
  pub none_healed : p.healed ≡ None
  pub none_again : p.again ≡ None
  pub ordered : StrikeInOrder line_of_fault p.faults
  pub one_seat : p.heals ≡ false → StrikeOne line_of_fault p.faults
  pub within : p.next ≤ length p.faults
  pub passed_over : All (λ f. f.scan ≤ 0) (take p.next p.faults)
  pub later : All (λ f. 0 < f.scan) (to_come p)

-- the faults that strike the next scan
abbrev pub due : StruckSeats → List VoteFault
due p = of_scan (suc p.scans) (to_come p)

-- the events of the next scan, with the fault at which they end, if there is one
abbrev pub next_path : StruckSeats → (now : ℕ) → List Bool → Path
next_path p now ins = path_of_scan p.heals (machines_in p.world.setup) (due p) now ins p.world.state

-- the state of the world at its vote
abbrev pub voted_at : StruckSeats → (now : ℕ) → List Bool → World_state
voted_at p now ins = at_vote p.heals (machines_in p.world.setup) (due p) now ins p.world.state

-- a scan at a time, whose vote comes in this state of a world
abbrev pub vote_taken : Network → Machines → (now : ℕ) → World_state → Outcome Vote
vote_taken net m now z = performed now (vote m z) (report_given m (length net.outputs) (instance_count net) z)

-- the refusal of a fault that is reached while another seat is dirty: F4 at its line
abbrev pub fault_refusal : VoteFault → Refusal
fault_refusal f = record { rule = F4; place = record { line = f.line; column = 0 } }

-- how a run ends: at a fault that is refused, and else at the end of its trace
abbrev pub run_end : Option VoteFault → End → End
run_end None end = end
run_end (Some f) end = refused (fault_refusal f)

-- a scan is refused where its events end at a fault
abbrev pub unless_at_fault : Option VoteFault → Outcome Vote → Outcome Vote
unless_at_fault None outcome = outcome
unless_at_fault (Some f) outcome = refuses (fault_refusal f)

-- the seat that is healed after an outcome
abbrev pub healed_behind : StruckSeats → Outcome Vote → Option Seat
healed_behind p (performed now vote report) = healed_by p.heals vote
healed_behind p (refuses refusal) = None
healed_behind p anew = None

-- the first seat that was outvoted again in the scan after its healing, after an outcome
abbrev pub again_behind : StruckSeats → Outcome Vote → Option Again
again_behind p (performed now vote report) = first_again p.again p.healed now vote
again_behind p (refuses refusal) = p.again
again_behind p anew = p.again

-- The next scan was made by its events, with the faults that are due, and has the vote and its report, or is refused.
pub record VotesScan (net : Network) (p : StruckSeats) (now : ℕ) (ins : List Bool) (outcome : Outcome Vote)
    (after : StruckSeats) : Type 0 where
  pub comes : outcome ≡ unless_at_fault (next_path p now ins).refused
      (vote_taken net (machines_in p.world.setup) now (voted_at p now ins))
  pub happens : after.world ≡ after_events (next_path p now ins).events p.world
  pub leaves : to_come p ≡ due p ++ to_come after
  pub counts : (to_come p ≡ []) ⊎ (after.scans ≡ suc p.scans)
  pub same_way : after.heals ≡ p.heals
  pub healed : after.healed ≡ healed_behind p outcome
  pub again : after.again ≡ again_behind p outcome

-- the same run with another world, after no healing
abbrev pub with_seats : Whole → StruckSeats → StruckSeats
with_seats w p = record p { world = w; healed = None }

-- An item has this outcome, and leaves the second world where the first one was.
abbrev pub VotesItem : Network → StruckSeats → Item → Outcome Vote → StruckSeats → Type 0
VotesItem net p (scan now ins) outcome after = VotesScan net p now ins outcome after
VotesItem net p restart outcome after = (outcome ≡ anew) × (after ≡ with_seats (happened Restart p.world) p)

-- what a run comes to over items, of which the first scan has this number, from where a world stands
abbrev pub coming : (heals : Bool) → List VoteFault → (number : ℕ) → List Item → Whole → Course
coming heals faults number items w = course_from heals (machines_in w.setup) faults number items w.state

-- the lines of the items that were done, with the worlds at the votes of their scans
abbrev pub course_lines : Network → Machines → List Item → List World_state → List ℕ
course_lines net m [] votes = []
course_lines net m (restart ∷ items) votes = vote_lines net anew ++ course_lines net m items votes
course_lines net m (scan now ins ∷ items) [] = []
course_lines net m (scan now ins ∷ items) (z ∷ votes) =
    vote_lines net (vote_taken net m now z) ++ course_lines net m items votes

-- the first seat that is outvoted again in a run from its beginning
abbrev pub first_outvoted_again : (heals : Bool) → Machines → Course → Option Again
first_outvoted_again heals m run = again_among heals None run.done (map (vote m) run.votes)

-- the world after it
abbrev pub voted_world : (heals : Bool) → List VoteFault → List Item → Whole → Whole
voted_world heals faults items w = after_events (coming heals faults 1 items w).events w

-- What a run from its beginning over these scans came to: the bytes that it wrote, and at its end, also where that is
-- at a fault that is refused, the world after all events, and the first seat that was outvoted again.
pub record VotesTo (net : Network) (scans : Scans) (p after : StruckSeats) (bytes : List ℕ)
    (ended : Result (Unit {0}) Cut) : Type 0 where
  pub written : let run = coming p.heals p.faults 1 scans.items p.world in
      WritesLines (course_lines net (machines_in p.world.setup) run.done run.votes) (run_end run.refused scans.end)
      bytes ended
  pub world : HasEnded ended → after.world ≡ voted_world p.heals p.faults scans.items p.world
  pub again : HasEnded ended → after.again ≡ first_outvoted_again p.heals (machines_in p.world.setup)
      (coming p.heals p.faults 1 scans.items p.world)
