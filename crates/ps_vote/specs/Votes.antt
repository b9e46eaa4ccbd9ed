-- What a vote answers, and the report that is given.
use Rattle.std.specs.Prelude.{◌≡◌, ℕ, length, List, Bool, true, false, if◌then◌else◌, Option, Some, None, unwrap_or}
use Rattle.ps_model.specs.declared.report.Report.{Report}
use Rattle.ps_model.specs.Fields.{first_difference, blank_report}
use Rattle.ps_machine.specs.Machines.{Machine}
use Rattle.ps_machine.specs.Outcomes.{Outcome, gives, lacks, outcome}
use Rattle.ps_vote.specs.declared.seat.Seat.{Seat}
use Rattle.ps_vote.specs.declared.seat.Seat.TheVariants.{A, B, C}
use Rattle.ps_vote.specs.declared.seat.Vote.{Vote}
use Rattle.ps_vote.specs.declared.seat.Vote.TheVariants.{All, Two, Split}
use Rattle.ps_vote.specs.Worlds.{Machines, World_state}

-- the report of an outcome, or none
abbrev pub report_of : Outcome → Option Report
report_of (gives r) = Some r
report_of (lacks failing) = None

-- the report that a seat has, or none: it trapped, spent its budget, or its cells hold no Boolean report
abbrev pub report_in : Machine → (cells : List ℕ) → Option Report
report_in m cells = report_of (outcome m cells)

-- a report that is read, or none
abbrev pub shown : Bool → Report → Option Report
shown true r = Some r
shown false r = None

-- no field differs
abbrev pub is_nowhere : Option ℕ → Bool
is_nowhere None = true
is_nowhere (Some field) = false

-- two seats have equal reports
abbrev pub agree : Option Report → Option Report → Bool
agree (Some r) (Some q) = is_nowhere (first_difference r q)
agree (Some r) None = false
agree None other = false

-- three equal reports, or two and the seat that has none or another, or no two
abbrev pub vote_of : (a b c : Option Report) → Vote
vote_of a b c =
    if agree a b then (if agree a c then All else Two C)
    else (if agree a c then Two B
    else (if agree b c then Two A
    else Split))

-- what a vote answers in this world
abbrev pub vote : Machines → World_state → Vote
vote m x = vote_of (report_in m.a x.a.cells) (report_in m.b x.b.cells) (report_in m.c x.c.cells)

-- the shared report, and one with every field FALSE and 0 where no two are equal
abbrev pub given_with : Vote → (outputs instances : ℕ) → (a b : Option Report) → Report
given_with All outputs instances a b = unwrap_or a (blank_report outputs instances)
given_with (Two A) outputs instances a b = unwrap_or b (blank_report outputs instances)
given_with (Two B) outputs instances a b = unwrap_or a (blank_report outputs instances)
given_with (Two C) outputs instances a b = unwrap_or a (blank_report outputs instances)
given_with Split outputs instances a b = blank_report outputs instances

-- the report that a vote gives, where the application has so many outputs and instances
abbrev pub report_given : Machines → (outputs instances : ℕ) → World_state → Report
report_given m outputs instances x = given_with (vote m x) outputs instances (report_in m.a x.a.cells) (report_in m.b x.b.cells)

-- the seat that a vote outvotes
abbrev pub outvoted_by : Vote → Option Seat
outvoted_by All = None
outvoted_by (Two seat) = Some seat
outvoted_by Split = None

-- two reports have room for an application with so many outputs and instances
pub record HasRoom (outputs instances : ℕ) (second third : Report) : Type 0 where
  pub second_outs : length second.outs ≡ outputs
  pub second_diags : length second.diags ≡ instances
  pub third_outs : length third.outs ≡ outputs
  pub third_diags : length third.diags ≡ instances
