-- Which seat is outvoted again in the scan after its healing.
use Rattle.std.specs.Prelude.{ℕ, Bool, true, false, List, [], ◌∷◌, Option, Some, None, if◌then◌else◌}
use Rattle.std.specs.Option.{option_or}
use Rattle.ps_model.specs.Meaning.{Item, scan, restart}
use Rattle.ps_vote.specs.declared.seat.Seat.{Seat}
use Rattle.ps_vote.specs.declared.seat.Vote.{Vote}
use Rattle.ps_vote.specs.declared.seat.Vote.TheVariants.{All, Two, Split}
use Rattle.ps_vote.specs.Worlds.{is_same}
use Rattle.ps_runs.specs.declared.seats.Again.{Again}

-- the seat that a run heals after a vote: the one that is outvoted, where the run heals
abbrev pub healed_by : (heals : Bool) → Vote → Option Seat
healed_by false vote = None
healed_by true All = None
healed_by true (Two seat) = Some seat
healed_by true Split = None

-- the seat that was healed after the scan before is outvoted again by the vote of a scan at this time
abbrev pub again_at : (healed : Option Seat) → (now : ℕ) → Vote → Option Again
again_at None now vote = None
again_at (Some seat) now All = None
again_at (Some seat) now (Two outvoted) =
    if is_same seat outvoted then Some (record { now = now; seat = seat }) else None
again_at (Some seat) now Split = None

-- the first seat that was outvoted again: the one of earlier scans, and else that of this one
abbrev pub first_again : (before : Option Again) → (healed : Option Seat) → (now : ℕ) → Vote → Option Again
first_again (Some again) healed now vote = Some again
first_again None healed now vote = again_at healed now vote

-- the first seat that is outvoted again among items whose scans have these votes, where this seat was healed after the
-- scan before
abbrev pub again_among : (heals : Bool) → (healed : Option Seat) → List Item → List Vote → Option Again
again_among heals healed [] votes = None
again_among heals healed (restart ∷ items) votes = again_among heals None items votes
again_among heals healed (scan now ins ∷ items) [] = None
again_among heals healed (scan now ins ∷ items) (v ∷ votes) =
    option_or (again_at healed now v) (again_among heals (healed_by heals v) items votes)
