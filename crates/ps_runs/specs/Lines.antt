-- The lines of a run that have no call of their own.
use Rattle.std.specs.Prelude.{ℕ, List, ◌++◌, codes, decimal}
use Rattle.ps_model.specs.declared.report.Report.{Report}
use Rattle.ps_model.specs.Network.{Network}
use Rattle.ps_report.specs.Lines.{report_text}
use Rattle.ps_vote.specs.declared.seat.Seat.{Seat}
use Rattle.ps_vote.specs.declared.seat.Seat.TheVariants.{A, B, C}
use Rattle.ps_vote.specs.declared.seat.Vote.{Vote}
use Rattle.ps_vote.specs.declared.seat.Vote.TheVariants.{All, Two, Split}

-- the line of a restart
abbrev pub restart_line : List ℕ
restart_line = codes "restart\n"

-- a seat's letter
abbrev pub seat_letter : Seat → List ℕ
seat_letter A = codes "A"
seat_letter B = codes "B"
seat_letter C = codes "C"

-- the line of a scan that outvotes a seat, as `20 OUTVOTED A`
abbrev pub outvoted_line : (now : ℕ) → Seat → List ℕ
outvoted_line now seat = decimal now ++ codes " OUTVOTED " ++ seat_letter seat ++ codes "\n"

-- The lines of a scan of three seats at a time, with its report and its vote: the report line, and after it the line
-- of the seat that is outvoted.
abbrev pub voted_text : Network → (now : ℕ) → Report → Vote → List ℕ
voted_text net now report All = report_text net now report
voted_text net now report (Two seat) = report_text net now report ++ outvoted_line now seat
voted_text net now report Split = report_text net now report
