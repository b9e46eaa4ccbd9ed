-- The fault file of three seats.
use Rattle.std.specs.Prelude.{ℕ, Bool, true, false, List, Option, Some, None, codes, slice_index, if◌then◌else◌}
use Rattle.std.specs.Str.{bytes_eq}
use Rattle.ps_model.specs.declared.channel.Region.{Region}
use Rattle.ps_model.specs.declared.channel.Region.TheVariants.{Code, Cells}
use Rattle.ps_trace.specs.Faults.{FaultList, Targets, faults_in}
use Rattle.ps_trace.specs.declared.target.FaultLine.{FaultLine}
use Rattle.ps_vote.specs.Worlds.{is_same}
use Rattle.ps_vote.specs.declared.faults.VoteFault.{VoteFault}
use Rattle.ps_vote.specs.declared.seat.Seat.{Seat}
use Rattle.ps_vote.specs.declared.seat.Seat.TheVariants.{A, B, C}
use Rattle.ps_vote.specs.declared.seat.VoteSizes.{VoteSizes}

-- the seat that a word names
abbrev pub seat_of : List ℕ → Option Seat
seat_of word =
    if bytes_eq word (codes "A") then Some A else if bytes_eq word (codes "B") then Some B else if bytes_eq word (codes "C") then Some C else None

-- the length of a region of a seat
abbrev pub seat_length : VoteSizes → Seat → Region → ℕ
seat_length sizes A Code = slice_index sizes.code 0
seat_length sizes A Cells = slice_index sizes.cells 0
seat_length sizes B Code = slice_index sizes.code 1
seat_length sizes B Cells = slice_index sizes.cells 1
seat_length sizes C Code = slice_index sizes.code 2
seat_length sizes C Cells = slice_index sizes.cells 2

-- the fault of a line with this number
abbrev pub seat_fault : ℕ → FaultLine Seat → VoteFault
seat_fault number line =
    record { line = number; scan = line.scan; turn = line.turn; seat = line.who; region = line.region; at = line.at; bytes = line.bytes }

-- the parts of a fault's line
abbrev pub line_of_fault : VoteFault → FaultLine Seat
line_of_fault fault = record { scan = fault.scan; turn = fault.turn; who = fault.seat; region = fault.region; at = fault.at; bytes = fault.bytes }

-- the seats of a world of three, of which a file may strike one alone, or any
abbrev pub three_seats : VoteSizes → (one_alone : Bool) → Targets Seat VoteFault
three_seats sizes one_alone = record { named = seat_of; is_same = is_same; length_of = seat_length sizes; made = seat_fault; one_alone = one_alone }

-- the faults that a fault file of `vote` gives, or its first refusal
abbrev pub vote_faults_of : List ℕ → VoteSizes → FaultList VoteFault
vote_faults_of text sizes = faults_in (three_seats sizes true) text

-- the same of `heal`: faults may strike any seats
abbrev pub heal_faults_of : List ℕ → VoteSizes → FaultList VoteFault
heal_faults_of text sizes = faults_in (three_seats sizes false) text
