-- The faults that are still to come in a run of three seats, scan by scan.
use Rattle.std.proofs.Common.{◌≡◌, ◌⊎◌, ◌≤◌, ◌<◌, ◌++◌, ℕ, suc, List, [], take, drop, inr, ⊎_elim, sym, ap, subst, arith}
use Rattle.std.specs.Prelude.{All, slice_index_or}
use Rattle.std.specs.List.Sorted.{IsNonDecreasingBy}
use Rattle.std.proofs.lemmas.List.Sorted.{IsNonDecreasingBy-drop}
use Rattle.ps_model.specs.Network.{Network}
use Rattle.ps_trace.specs.FaultOrder.{StrikeInOrder}
use Rattle.ps_vote.specs.declared.faults.VoteFault.{VoteFault}
use Rattle.ps_vote.specs.Faults.{line_of_fault}
use Rattle.ps_vote.specs.Orders.{of_scan}
use Rattle.ps_vote.specs.Worlds.{World_state}
use Rattle.ps_runs.specs.Seats.{to_come, due, AreStruckSeatsFor, AreAtBeginning}
use Rattle.ps_runs.specs.declared.seats.StruckSeats.{StruckSeats}
use Rattle.ps_runs.proofs.Coming as coming
use Rattle.ps_runs.proofs.Coming.{StandsAt, below_or_same, later_in_rest, due_next, stands_next}

-- the scan in which a fault strikes
abbrev scan_of : VoteFault → ℕ
scan_of f = f.scan

-- faults in the order in which they strike come in the order of their scans
pub in_order_of_scans : (fs : List VoteFault) → StrikeInOrder line_of_fault fs → IsNonDecreasingBy (λ (f : VoteFault). f.scan) fs
in_order_of_scans fs ordered i j d le lt =
    ⊎_elim (λ below. (ordered i j d below lt).0) (λ same. subst (λ k. (slice_index_or fs i d).scan ≤ (slice_index_or fs k d).scan) same (omega arith)) (below_or_same i j le)

-- those that are counted up to the next scan are those that are due
pub counted_are_due : (p : StruckSeats) (number k : ℕ) → All (λ f. p.scans < f.scan) (to_come p) → (to_come p ≡ []) ⊎ (number ≡ suc p.scans) →
    All (λ f. f.scan ≤ number) (take k (to_come p)) → All (λ f. number < f.scan) (drop k (to_come p)) → take k (to_come p) ≡ due p
counted_are_due p number k after_last counts upto later = coming.counted_are_due scan_of (to_come p) p.scans number k after_last counts upto later

-- So many scans were made: the faults of later scans are those still to come, and these are counted while there are any.
abbrev pub Stands : List VoteFault → ℕ → StruckSeats → Type 0
Stands all done p = StandsAt scan_of all done (to_come p) p.scans

-- at the beginning none was made
pub first_stands : (net : Network) (p : StruckSeats) → AreAtBeginning net p → Stands p.faults 0 p
first_stands net p begins = record { same = λ n lt. later_in_rest scan_of n 0 p.next p.faults lt begins.passed_over; counted = inr begins.none_made }

-- and its world takes the first scan
pub first_fits : (net : Network) (p : StruckSeats) → AreAtBeginning net p → AreStruckSeatsFor net p
first_fits net p begins = record {
  setup = begins.world.setup;
  rest = ap (λ (x : World_state). x.begun) begins.world.beginning;
  within = begins.within;
  ordered = IsNonDecreasingBy-drop (λ (f : VoteFault). f.scan) p.next p.faults (in_order_of_scans p.faults begins.ordered);
  later = subst (λ n. All (λ f. n < f.scan) (to_come p)) (sym begins.none_made) begins.later;
}

-- the faults that are due are those of the next scan
pub due_of_scan : (all : List VoteFault) (done : ℕ) (p : StruckSeats) → Stands all done p → due p ≡ of_scan (suc done) all
due_of_scan all done p stands = due_next scan_of all done (to_come p) p.scans stands

-- after the next scan
pub stands_behind : (all : List VoteFault) (done : ℕ) (p after : StruckSeats) → Stands all done p → to_come p ≡ due p ++ to_come after → (to_come p ≡ []) ⊎ (after.scans ≡ suc p.scans) →
    Stands all (suc done) after
stands_behind all done p after stands leaves counts = stands_next scan_of all done (to_come p) (to_come after) p.scans after.scans stands leaves counts
