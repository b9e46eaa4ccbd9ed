-- What runs answer, by what their worlds come to scan by scan. That this is what the scans mean, up to where the
-- channels trip or a fault is refused, are laws.
use Rattle.std.specs.Prelude.{◌≡◌, ℕ, Bool, List, [], ◌++◌, fold}
use Rattle.ps_model.specs.declared.channel.Fault.{Fault}
use Rattle.ps_model.specs.Meaning.{Item}
use Rattle.ps_model.specs.Network.{Network}
use Rattle.ps_report.specs.Short.{load_text, refusal_text}
use Rattle.ps_runs.specs.Counting.{none_counted, counted}
use Rattle.ps_runs.specs.declared.counting.Counter.{Counter}
use Rattle.ps_runs.specs.Resting.{answered, outcomes, answer_lines, any_trips, ran}
use Rattle.ps_runs.specs.Seats.{coming, course_lines, run_end}
use Rattle.ps_trace.specs.Scans.{Scans, End}
use Rattle.ps_trace.specs.Scans.End.{whole, refused}
use Rattle.ps_vote.specs.declared.faults.VoteFault.{VoteFault}
use Rattle.ps_vote.specs.Whole.{Whole as WholeSeats, machines_in}
use Rattle.ps_world.specs.Whole.{Whole, machines_in as channels_in}
use Rattle.ps_runs.specs.Tripping.{first_trip}
use Rattle.ps_runs.specs.declared.striking.StruckWorld.{StruckWorld}
use Rattle.ps_top.specs.Asking.{Answer}
use Rattle.ps_top.specs.Program.{answer, end_line, end_status, status_if}
use Rattle.ps_top.specs.declared.Status.{Status}
use Rattle.ps_top.specs.declared.Status.TheVariants.{Done, BadInput}

-- A run over these items ended with the world after all events, and with the first trip.
pub record EndsWith (items : List Item) (p after : StruckWorld) : Type 0 where
  pub world : after.world ≡ ran p.faults 1 items p.world
  pub trip : after.trip ≡ first_trip (channels_in p.world.setup) p.faults 1 items p.world.state

-- the status of a run at the end of its trace
abbrev pub status_of : End → (tripped : Bool) → Status
status_of whole tripped = status_if tripped
status_of (refused refusal) tripped = BadInput

-- what is written of a whole trace in two channels, and the status
abbrev pub run_answer : Network → List Fault → Whole → Scans → Answer
run_answer net faults w scans =
    let given = answered net faults 1 scans.items w in
    answer (answer_lines net scans.items given ++ end_line scans.end) (status_of scans.end (any_trips given))

-- what is written of a whole trace in three seats, and the status
abbrev pub vote_answer : (heals : Bool) → Network → List VoteFault → WholeSeats → Scans → Answer
vote_answer heals net faults w scans =
    let run = coming heals faults 1 scans.items w in
    answer (course_lines net (machines_in w.setup) run.done run.votes ++ end_line (run_end run.refused scans.end))
    (end_status (run_end run.refused scans.end) [])

-- what is said at the end of a load's trace, where this was counted
abbrev pub counted_answer : (n : ℕ) → End → Counter → Answer
counted_answer n whole c = answer (load_text n c.scans c.trues c.errors) Done
counted_answer n (refused refusal) c = answer (refusal_text refusal) BadInput

-- what is said of a whole trace of a load
abbrev pub load_answer : (n : ℕ) → Network → List Fault → Whole → Scans → Answer
load_answer n net faults w scans =
    counted_answer n scans.end (fold counted none_counted (outcomes scans.items (answered net faults 1 scans.items w)))

-- an answer after a line
abbrev pub behind : List ℕ → Answer → Answer
behind line answer = record { bytes = line ++ answer.bytes; status = answer.status }
