-- What comes of the items of a trace.
use Rattle.std.specs.Prelude.{ℕ, List, [], Some, None, Result, Ok, Err}
use Rattle.ps_base.specs.declared.failing.Refusal.{Refusal}
use Rattle.ps_model.specs.declared.channel.Verdict.{Verdict}
use Rattle.ps_model.specs.declared.channel.Verdict.TheVariants.{Released, Tripped, Down}
use Rattle.ps_model.specs.declared.report.Report.{Report}
use Rattle.ps_model.specs.Network.{Network}
use Rattle.ps_report.specs.Lines.{report_text, trip_text}
use Rattle.ps_vote.specs.declared.seat.Vote.{Vote}
use Rattle.ps_runs.specs.Lines.{restart_line, voted_text}

-- A scan was performed, with its time, a verdict on it and its report; or it was begun and is refused, which ends the
-- run; or all begins anew.
pub data Outcome (V : Type 0) : Type 0 where
  performed : (now : ℕ) (verdict : V) (report : Report) → Outcome V
  refuses : (refusal : Refusal) → Outcome V
  anew : Outcome V

-- the outcome of a scan at a time, by what performed it
abbrev pub outcome_of : {V : Type 0} → ℕ → Report → Result V Refusal → Outcome V
outcome_of now report (Ok verdict) = performed now verdict report
outcome_of now report (Err refusal) = refuses refusal

-- an outcome that a run goes on after, which is told
abbrev pub IsTold : {V : Type 0} → Outcome V → Type 0
IsTold (performed now verdict report) = Unit {0}
IsTold (refuses refusal) = ⊥
IsTold anew = Unit {0}

-- the line of an outcome of two channels: a scan that is refused has none
abbrev pub outcome_line : Network → Outcome Verdict → List ℕ
outcome_line net (performed now Released report) = report_text net now report
outcome_line net (performed now (Tripped cause) report) = trip_text net now (Some cause)
outcome_line net (performed now Down report) = trip_text net now None
outcome_line net (refuses refusal) = []
outcome_line net anew = restart_line

-- the lines of an outcome of three seats
abbrev pub vote_lines : Network → Outcome Vote → List ℕ
vote_lines net (performed now vote report) = voted_text net now report vote
vote_lines net (refuses refusal) = []
vote_lines net anew = restart_line
