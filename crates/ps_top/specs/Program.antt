-- What the program writes, for its words and the texts that are held.
use Rattle.std.specs.Prelude.{◌≡◌, ◌⊎◌, ◌+◌, ℕ, suc, Bool, true, false, ◌==◌, ◌||◌, if◌then◌else◌, List, [], ◌∷◌, ◌++◌}
use Rattle.std.specs.Prelude.{Option, Some, None, is_some, length, map, sum_by, take}
use Rattle.ps_base.specs.declared.failing.Refusal.{Refusal}
use Rattle.ps_base.specs.declared.limits.TheConstants.{LARGEST_SOURCE}
use Rattle.ps_model.specs.declared.channel.Cause.{Cause}
use Rattle.ps_model.specs.declared.channel.Channel.TheVariants.{A, B}
use Rattle.ps_model.specs.declared.channel.Fault.{Fault}
use Rattle.ps_model.specs.declared.channel.ImageSizes.{ImageSizes}
use Rattle.ps_model.specs.declared.report.Report.{Report}
use Rattle.ps_model.specs.Network.{Network}
use Rattle.ps_model.specs.Scanning.{State}
use Rattle.ps_model.specs.Meaning.{Item, scan, restart, Meaning, report}
use Rattle.ps_flow.specs.declared.certificate.CertLine.{CertLine}
use Rattle.ps_flow.specs.Derivation.{certificate}
use Rattle.ps_flow.specs.Read.{IsCertificate, RefusesText}
use Rattle.ps_flow.specs.Written.{written}
use Rattle.ps_load.specs.Texts.{app_text, trace_text}
use Rattle.ps_parser.specs.Tree.{SourceTree}
use Rattle.ps_checker.specs.Counts.{Counts}
use Rattle.ps_checker.specs.Derives.{Derives}
use Rattle.ps_checker.specs.Objections.{Objects}
use Rattle.ps_trace.specs.Faults.{FaultList, faults_of}
use Rattle.ps_trace.specs.Scans.{Scans, End, scans_of}
use Rattle.ps_trace.specs.Scans.End.{whole, refused}
use Rattle.ps_world.specs.Worlds.{world_0}
use Rattle.ps_world.specs.Orders.{events, trips}
use Rattle.ps_world.specs.Whole.{Setup, Whole, machines_in, after_events, IsSetupOf}
use Rattle.ps_vote.specs.declared.faults.VoteFault.{VoteFault}
use Rattle.ps_vote.specs.declared.seat.Vote.{Vote}
use Rattle.ps_vote.specs.declared.seat.VoteSizes.{VoteSizes}
use Rattle.ps_vote.specs.Faults.{vote_faults_of, heal_faults_of}
use Rattle.ps_vote.specs.Votes.{vote as vote_in}
use Rattle.ps_vote.specs.Orders.{Course, course}
use Rattle.ps_vote.specs.Worlds.{world_0 as seats_0}
use Rattle.ps_vote.specs.Whole.{Setup as SeatSetup, Whole as WholeSeats, machines_in as seats_in}
use Rattle.ps_vote.specs.Whole.{after_events as seats_after, IsSetupOf as IsSeatSetupOf}
use Rattle.ps_demand.specs.Lines.{demand_lines}
use Rattle.ps_report.specs.Image.{image_part}
use Rattle.ps_report.specs.Lines.{report_text, trip_text}
use Rattle.ps_report.specs.Short.{refusal_text, check_text, load_text}
use Rattle.ps_words.specs.Command.{Command, command_of, usage_line}
use Rattle.ps_words.specs.Command.Command.{Run, Fault as FaultWords, Check, Cert, Verify, Image, Load, Demand}
use Rattle.ps_words.specs.Command.Command.{Vote as VoteWords, Heal as HealWords, NotTaken}
use Rattle.ps_top.specs.Asking.{Answer, Asking, Worked}
use Rattle.ps_top.specs.Asking.Asking.{Says, Asks, Finds, Leaves}
use Rattle.ps_runs.specs.Counting.{true_outputs, true_errors}
use Rattle.ps_runs.specs.Lines.{restart_line, voted_text}
use Rattle.ps_runs.specs.Seats.{first_outvoted_again, run_end}
use Rattle.ps_runs.specs.Tripping.{first_trip}
use Rattle.ps_runs.specs.declared.seats.Again.{Again}
use Rattle.ps_runs.specs.declared.striking.Trip.{Trip}
use Rattle.ps_top.specs.Lines.{verified_line}
use Rattle.ps_accepted.specs.Demanding.{IsDemandableAs}
use Rattle.ps_accepted.specs.Source.{Reading, IsProgram, IsResolvedAs, IsAcceptedAs, counts}
use Rattle.ps_accepted.specs.Source.Reading.{stands_for, is_refused}
use Rattle.ps_top.specs.declared.Status.{Status}
use Rattle.ps_top.specs.declared.Status.TheVariants.{Done, Refused, Usage, BadInput, Tripped}

-- these bytes with this status
abbrev pub answer : List ℕ → Status → Answer
answer bytes status = record { bytes = bytes; status = status }

-- ---- the source

-- what is left, with the counts of a certificate that was checked
abbrev pub with_checked : Counts → Worked → Worked
with_checked counts work = record work { checked = Some counts }

-- the bytes that are read of a source: one more than the largest source has, or all of them
abbrev pub read_of : List ℕ → List ℕ
read_of source = take (LARGEST_SOURCE + 1) source

-- what is left, with bytes that were read
abbrev pub with_bytes : List ℕ → Worked → Worked
with_bytes bytes work = record work { text = Some bytes }

-- what is left, with the bytes that are read of a source
abbrev pub with_text : List ℕ → Worked → Worked
with_text source work = with_bytes (read_of source) work

-- the counts of a certificate that was checked are left
abbrev pub leaves_checked : Counts → (before work : Worked) → Type 0
leaves_checked counts before work = work ≡ with_checked counts before

-- the bytes that were read of a source are left
abbrev pub leaves_text : List ℕ → (before work : Worked) → Type 0
leaves_text source before work = work ≡ with_text source before

-- with an application the program goes on; a source that is refused has its line
abbrev pub with_application : (Network → Asking) → Reading → Asking
with_application next (stands_for net) = next net
with_application next (is_refused refusal) = Says (answer (refusal_text refusal) Refused)

-- the application of this source, which is accepted and whose certificate was checked
abbrev pub accepted_source : List ℕ → (Network → Asking) → Asking
accepted_source source next =
    Finds Reading (IsAcceptedAs source)
    (with_application (λ net. Leaves (leaves_checked (counts net (certificate net))) (next net)))

-- the application of the source of this name, whose bytes are left
abbrev pub accepted_from : List ℕ → (List ℕ → Network → Asking) → Asking
accepted_from app next = Asks app (λ source. Leaves (leaves_text source) (accepted_source source (next source)))

-- the same, where the source decides nothing further
abbrev pub accepted : List ℕ → (Network → Asking) → Asking
accepted app next = accepted_from app (λ source. next)

-- ---- check and cert

-- what is left, with an application and its flat source
abbrev pub with_app : Network → SourceTree → Worked → Worked
with_app net flat work = record work { app = Some net; source = Some flat }

-- the application of this source is left, and the flat source for which it stands
abbrev pub leaves_app : List ℕ → Network → (before work : Worked) → Type 0
leaves_app source net before work = (flat : SourceTree) × IsProgram source flat × (work ≡ with_app net flat before)

-- the line of the counts is said of an application, which is left
abbrev pub checked : List ℕ → Network → Asking
checked source net = Leaves (leaves_app source net) (Says (answer (check_text net) Done))

-- `check APP`: the line of the counts
abbrev pub check : List ℕ → Asking
check app = accepted_from app checked

-- `cert APP`: the certificate, a line for each of its lines
abbrev pub cert : List ℕ → Asking
cert app = accepted app (λ net. Says (answer (written (certificate net)) Done))

-- ---- demand

-- the bytes that were read of this source are left, and where it is accepted the counts of its certificate
pub record LeavesAccepted (source : List ℕ) (before work : Worked) : Type 0 where
  pub accepted : (net : Network) → IsAcceptedAs source (stands_for net) →
      work ≡ with_checked (counts net (certificate net)) (with_text source before)
  pub refused : (refusal : Refusal) → IsAcceptedAs source (is_refused refusal) → work ≡ with_text source before

-- what each SAFEBOOL output demands, a line for each
abbrev pub demanded : Network → Asking
demanded net = Says (answer (demand_lines net) Done)

-- `demand APP`: the lines of what the outputs demand, where the application is accepted and no demand is too large
abbrev pub demand : List ℕ → Asking
demand app =
    Asks app (λ source. Leaves (LeavesAccepted source)
    (Finds Reading (IsDemandableAs source) (with_application demanded)))

-- ---- the channels of an application

-- what never changes of an application's world is found: both compilers' code, the sizes, and the budgets of turns
abbrev pub with_setup : Network → (Setup → Asking) → Asking
with_setup net next = Finds Setup (IsSetupOf net) next

-- the world of two channels at the beginning
abbrev pub first_world : Setup → Whole
first_world setup = record { setup = setup; state = world_0 (machines_in setup) }

-- the lengths of the regions of both channels, in bytes
abbrev pub region_sizes : Setup → ImageSizes
region_sizes setup =
    let x = world_0 (machines_in setup) in record {
      a_code = length x.a.code;
      a_cells = length x.a.cells;
      b_code = length x.b.code;
      b_cells = length x.b.cells;
    }

-- ---- image

-- the text of an application's images: channel A's part, and then channel B's
abbrev pub image_lines : Setup → List ℕ
image_lines setup =
    image_part A setup.image_a (region_sizes setup).a_cells setup.budget_a ++
    image_part B setup.image_b (region_sizes setup).b_cells setup.budget_b

-- the images of an application are said
abbrev pub imaged : Network → Asking
imaged net = with_setup net (λ setup. Says (answer (image_lines setup) Done))

-- `image APP`: the code of both channels
abbrev pub image : List ℕ → Asking
image app = accepted app imaged

-- ---- run and fault

-- the scans of a trace that trip, by number, each with its cause, where these faults strike
abbrev pub trips_of : Setup → List Fault → Scans → List (ℕ × Cause)
trips_of setup faults scans = trips (machines_in setup) scans.items faults

-- the cause with which the scan of this number trips, if it is one of those that trip
abbrev pub cause_at : ℕ → List (ℕ × Cause) → Option Cause
cause_at number [] = None
cause_at number (trip ∷ tripped) = if trip.0 == number then Some trip.1 else cause_at number tripped

-- the line of a scan with this state: where it trips, its TRIP line with the cause; after a trip, up to the next
-- restart, the later TRIP line; and else the report line
abbrev pub scan_line : Network → (now : ℕ) → State → Option Cause → (down : Bool) → List ℕ
scan_line net now w (Some cause) down = trip_text net now (Some cause)
scan_line net now w None true = trip_text net now None
scan_line net now w None false = report_text net now (report net w)

-- the lines of items, of which the first scan has this number, and whose scans have these states, where these scans
-- trip; `down` says whether a scan tripped since the last restart
abbrev pub item_lines : Network → List (ℕ × Cause) → (number : ℕ) → (down : Bool) → List Item → List State → List ℕ
item_lines net tripped number down [] ws = []
item_lines net tripped number down (restart ∷ items) ws = restart_line ++ item_lines net tripped number false items ws
item_lines net tripped number down (scan now ins ∷ items) [] = []
item_lines net tripped number down (scan now ins ∷ items) (w ∷ ws) =
    scan_line net now w (cause_at number tripped) down
    ++ item_lines net tripped (suc number) (down || is_some (cause_at number tripped)) items ws

-- the line of the end of a trace: none, or its refusal
abbrev pub end_line : End → List ℕ
end_line whole = []
end_line (refused refusal) = refusal_text refusal

-- the status of a whole run, by whether a scan tripped
abbrev pub status_if : (has_tripped : Bool) → Status
status_if false = Done
status_if true = Tripped

-- whether there are trips
abbrev pub are_some : List (ℕ × Cause) → Bool
are_some [] = false
are_some (trip ∷ tripped) = true

-- the status at the end of a trace: a refusal decides before a trip
abbrev pub end_status : End → List (ℕ × Cause) → Status
end_status whole tripped = status_if (are_some tripped)
end_status (refused refusal) tripped = BadInput

-- a line for each item, and one for a refusal
abbrev pub told : Network → List (ℕ × Cause) → Scans → List State → Answer
told net tripped scans ws =
    answer (item_lines net tripped 1 false scans.items ws ++ end_line scans.end) (end_status scans.end tripped)

-- what is left, with the world that a run ended with, and its first trip
abbrev pub with_world : Whole → Option Trip → Worked → Worked
with_world w trip work = record work { world = Some w; trip = trip }

-- the world after all events of the run is left, and the first scan that trips
abbrev pub leaves_world : Setup → List Fault → Scans → (before work : Worked) → Type 0
leaves_world setup faults scans before work =
    let m = machines_in setup in
    work ≡ with_world (after_events (events m scans.items faults) (first_world setup))
    (first_trip m faults 1 scans.items (world_0 m)) before

-- the scans of a trace have the lines of what they mean, up to where the channels trip
abbrev pub answer_scans : Network → Setup → List Fault → Scans → Asking
answer_scans net setup faults scans =
    Leaves (leaves_world setup faults scans)
    (Finds (List State) (Meaning net scans.items) (λ ws. Says (told net (trips_of setup faults scans) scans ws)))

-- the trace of this name is run, where these faults strike
abbrev pub run_named : Network → Setup → List Fault → List ℕ → Asking
run_named net setup faults trace = Asks trace (λ text. answer_scans net setup faults (scans_of text net))

-- a fault file that is refused has its line, and with the faults of another the program goes on
abbrev pub unless_refused : {F : Type 0} → (List F → Asking) → List F → Option Refusal → Asking
unless_refused next faults None = next faults
unless_refused next faults (Some refusal) = Says (answer (refusal_text refusal) BadInput)

-- the faults of the file of this name, by what a text gives
abbrev pub with_file : {F : Type 0} → (List ℕ → FaultList F) → List ℕ → (List F → Asking) → Asking
with_file faults_in faults next =
    Asks faults (λ text. unless_refused next (faults_in text).faults (faults_in text).refusal)

-- the faults of two channels in the file of this name
abbrev pub with_faults : Setup → List ℕ → (List Fault → Asking) → Asking
with_faults setup faults next = with_file (λ text. faults_of text (region_sizes setup)) faults next

-- an application's trace is run without faults
abbrev pub run_quietly : List ℕ → Network → Asking
run_quietly trace net = with_setup net (λ setup. run_named net setup [] trace)

-- an application's trace is run, where the faults of a file strike
abbrev pub run_struck : (trace faults : List ℕ) → Network → Asking
run_struck trace faults net =
    with_setup net (λ setup. with_faults setup faults (λ list. run_named net setup list trace))

-- `run APP TRACE`: the application is accepted, and then its trace is run
abbrev pub run : List ℕ → List ℕ → Asking
run app trace = accepted app (run_quietly trace)

-- `fault APP TRACE FAULTS`: the same, where the faults of a file strike
abbrev pub fault : (app trace faults : List ℕ) → Asking
fault app trace faults = accepted app (run_struck trace faults)

-- ---- vote and heal

-- the world of three seats at the beginning
abbrev pub first_seats : SeatSetup → WholeSeats
first_seats setup = record { setup = setup; state = seats_0 (seats_in setup) }

-- the lengths of the regions of three seats, in bytes
abbrev pub seat_sizes : SeatSetup → VoteSizes
seat_sizes setup =
    let x = seats_0 (seats_in setup) in
    record {
      code = length x.a.code ∷ length x.b.code ∷ length x.c.code ∷ [];
      cells = length x.a.cells ∷ length x.b.cells ∷ length x.c.cells ∷ [];
    }

-- the faults that the text of a fault file gives: those of `vote` strike one seat alone, and those of `heal`, which
-- heals, any seats
abbrev pub seat_faults_of : (heals : Bool) → List ℕ → VoteSizes → FaultList VoteFault
seat_faults_of false text sizes = vote_faults_of text sizes
seat_faults_of true text sizes = heal_faults_of text sizes

-- the lines of items with these votes, whose scans have these states: the report line of each scan, and after it that
-- of the seat that its vote outvotes
abbrev pub voted_lines : Network → List Item → List Vote → List State → List ℕ
voted_lines net [] votes ws = []
voted_lines net (restart ∷ items) votes ws = restart_line ++ voted_lines net items votes ws
voted_lines net (scan now ins ∷ items) [] ws = []
voted_lines net (scan now ins ∷ items) (v ∷ votes) [] = []
voted_lines net (scan now ins ∷ items) (v ∷ votes) (w ∷ ws) =
    voted_text net now (report net w) v ++ voted_lines net items votes ws

-- the lines of the items that a run did, and one for a refusal
abbrev pub told_votes : Network → SeatSetup → Course → End → List State → Answer
told_votes net setup run end ws =
    answer
    (voted_lines net run.done (map (vote_in (seats_in setup)) run.votes) ws ++ end_line (run_end run.refused end))
    (end_status (run_end run.refused end) [])

-- what is left, with the world of three seats that a run ended with, and the first seat that was outvoted again
abbrev pub with_votes : WholeSeats → Option Again → Worked → Worked
with_votes w again work = record work { votes = Some w; again = again }

-- the world of three seats after all events of the run is left, and the first seat that is outvoted again in the scan
-- after its healing
abbrev pub leaves_votes : (heals : Bool) → SeatSetup → Course → (before work : Worked) → Type 0
leaves_votes heals setup run before work =
    work ≡ with_votes (seats_after run.events (first_seats setup)) (first_outvoted_again heals (seats_in setup) run)
    before

-- the scans of a trace have the lines of what they mean, up to a fault that is refused
abbrev pub vote_scans : (heals : Bool) → Network → SeatSetup → List VoteFault → Scans → Asking
vote_scans heals net setup faults scans =
    let run = course heals (seats_in setup) scans.items faults in
    Leaves (leaves_votes heals setup run)
    (Finds (List State) (Meaning net scans.items) (λ ws. Says (told_votes net setup run scans.end ws)))

-- the trace of this name is run in three seats, where these faults strike
abbrev pub vote_named : (heals : Bool) → Network → SeatSetup → List VoteFault → List ℕ → Asking
vote_named heals net setup faults trace = Asks trace (λ text. vote_scans heals net setup faults (scans_of text net))

-- the faults of three seats in the file of this name
abbrev pub with_seat_faults : (heals : Bool) → SeatSetup → List ℕ → (List VoteFault → Asking) → Asking
with_seat_faults heals setup faults next = with_file (λ text. seat_faults_of heals text (seat_sizes setup)) faults next

-- an application's trace is run in three seats, where the faults of a file strike
abbrev pub vote_struck : (heals : Bool) → (trace faults : List ℕ) → Network → Asking
vote_struck heals trace faults net =
    Finds SeatSetup (IsSeatSetupOf net)
    (λ setup. with_seat_faults heals setup faults (λ list. vote_named heals net setup list trace))

-- the application is accepted, and then its trace is run in three seats, with the seats healed that are outvoted or not
abbrev pub voted : (heals : Bool) → (app trace faults : List ℕ) → Asking
voted heals app trace faults = accepted app (vote_struck heals trace faults)

-- `vote APP TRACE FAULTS`: by the events of `vote`, in which no seat is healed
abbrev pub vote : (app trace faults : List ℕ) → Asking
vote app trace faults = voted false app trace faults

-- `heal APP TRACE FAULTS`: by those of `heal`
abbrev pub heal : (app trace faults : List ℕ) → Asking
heal app trace faults = voted true app trace faults

-- ---- load

-- the summary of a load whose scans have these reports; a trace that is refused has its line in place of it
abbrev pub summary : (n : ℕ) → End → List Report → Answer
summary n whole reports =
    answer (load_text n (length reports) (sum_by true_outputs reports) (sum_by true_errors reports)) Done
summary n (refused refusal) reports = answer (refusal_text refusal) BadInput

-- the scans of a load's trace are summed up by what they mean
abbrev pub sum_scans : (n : ℕ) → Network → Setup → Scans → Asking
sum_scans n net setup scans =
    Leaves (leaves_world setup [] scans)
    (Finds (List State) (Meaning net scans.items) (λ ws. Says (summary n scans.end (map (report net) ws))))

-- the trace of a load is run without faults
abbrev pub sum_trace : (n : ℕ) → Network → Asking
sum_trace n net = with_setup net (λ setup. sum_scans n net setup (scans_of (trace_text n) net))

-- `load N`: the application of a load is accepted, and then its trace is run
abbrev pub load : (n : ℕ) → Asking
load n = accepted_source app_text (sum_trace n)

-- ---- verify

-- The ruling on a certificate: its lines derive the application, or an objection stands first.
pub data Ruling : Type 0 where
  derives : List CertLine → Ruling
  objects : Refusal → Ruling

-- the certificate of the text has an objection, which names a line alone
pub record HasObjection (net : Network) (text : List ℕ) (refusal : Refusal) : Type 0 where
  pub lines : List CertLine
  pub certificate_is : IsCertificate text lines
  pub objection : Objects net lines refusal.place.line refusal.rule
  pub line_alone : refusal.place.column ≡ 0

-- the rules C are tried before the rules O
abbrev pub Judges : Network → List ℕ → Ruling → Type 0
Judges net text (derives lines) = IsCertificate text lines × Derives net lines
Judges net text (objects r) = RefusesText text r.rule r.place ⊎ HasObjection net text r

-- what is said of a certificate that was judged
abbrev pub verdict : Network → Ruling → Asking
verdict net (derives lines) =
    Leaves (leaves_checked (counts net lines)) (Says (answer (verified_line (length lines)) Done))
verdict net (objects refusal) = Says (answer (refusal_text refusal) BadInput)

-- the certificate of this name is judged
abbrev pub verify_named : Network → List ℕ → Asking
verify_named net cert = Asks cert (λ text. Finds Ruling (Judges net text) (verdict net))

-- `verify APP CERT`: no rule S is tried, and nothing is derived
abbrev pub verify : List ℕ → List ℕ → Asking
verify app cert =
    Asks app (λ source. Leaves (leaves_text source)
    (Finds Reading (IsResolvedAs source) (with_application (λ net. verify_named net cert))))

-- ---- the words

-- what is said to words that ask this
abbrev pub said : Command → Asking
said (Run app trace) = run app trace
said (FaultWords app trace faults) = fault app trace faults
said (Check app) = check app
said (Cert app) = cert app
said (Verify app cert) = verify app cert
said (Image app) = image app
said (Load n) = load n
said (Demand app) = demand app
said (VoteWords app trace faults) = vote app trace faults
said (HealWords app trace faults) = heal app trace faults
said NotTaken = Says (answer usage_line Usage)

-- what the program has to say
abbrev pub text : List (List ℕ) → Asking
text words = said (command_of words)
