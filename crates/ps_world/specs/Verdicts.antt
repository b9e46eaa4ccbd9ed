-- What a Compare answers: the verdict with its cause, and the report that is given.
use Rattle.std.specs.Prelude.{ℕ, Bool, true, false, if◌then◌else◌, Option, Some, None, slice_get}
use Rattle.ps_model.specs.declared.channel.Channel.{Channel}
use Rattle.ps_model.specs.declared.channel.Channel.TheVariants.{A, B}
use Rattle.ps_model.specs.declared.channel.Cause.{Cause}
use Rattle.ps_model.specs.declared.channel.Cause.TheVariants.{Differ, Stuck, Trap, NoReport}
use Rattle.ps_model.specs.declared.channel.Verdict.{Verdict}
use Rattle.ps_model.specs.declared.channel.Verdict.TheVariants.{Released, Tripped, Down}
use Rattle.ps_model.specs.declared.report.Report.{Report}
use Rattle.ps_model.specs.Fields.{fields, first_difference, blank_report}
use Rattle.ps_machine.specs.declared.seat.Failing.{Failing}
use Rattle.ps_machine.specs.Outcomes.{Outcome, gives, lacks, outcome}
use Rattle.ps_world.specs.Worlds.{Machines, World_state}

-- the cause that a channel's failing is
abbrev pub cause_of : Channel → Failing → Cause
cause_of ch (Failing.Trap n) = Trap ch n
cause_of ch Failing.Stuck = Stuck ch
cause_of ch Failing.NoReport = NoReport ch

-- reports that differ nowhere are released, and others trip with the first field that differs
abbrev pub agreed : Option ℕ → Verdict
agreed None = Released
agreed (Some field) = Tripped (Differ field)

-- A is looked at before B, and both before the reports are compared
abbrev pub judged : Outcome → Outcome → Verdict
judged (lacks failing) b = Tripped (cause_of A failing)
judged (gives r) (lacks failing) = Tripped (cause_of B failing)
judged (gives r) (gives q) = agreed (first_difference r q)

-- the verdict of a Compare: a world that was tripped before is down
abbrev pub verdict : Machines → World_state → Verdict
verdict m x = if x.tripped then Down else judged (outcome m.a x.a.cells) (outcome m.b x.b.cells)

-- whether a world is tripped after this verdict, up to the next Restart
abbrev pub is_trip : Verdict → Bool
is_trip Released = false
is_trip (Tripped cause) = true
is_trip Down = true

-- the report of an outcome, and another where there is none
abbrev pub report_or : Report → Outcome → Report
report_or other (gives r) = r
report_or other (lacks failing) = other

-- With Released the report is that of the channels. With every other verdict each output, Ready and Error is FALSE and
-- each code 0.
abbrev pub given_with : Verdict → (outputs instances : ℕ) → Outcome → Report
given_with Released outputs instances a = report_or (blank_report outputs instances) a
given_with (Tripped cause) outputs instances a = blank_report outputs instances
given_with Down outputs instances a = blank_report outputs instances

-- the value of a field in the report of an outcome, where it has one: a Boolean is 0 or 1
abbrev pub field_in : ℕ → Outcome → Option ℕ
field_in field (gives r) = slice_get (fields r) field
field_in field (lacks failing) = None

-- the report that a Compare gives, where the application has so many outputs and instances
abbrev pub report_given : Machines → (outputs instances : ℕ) → World_state → Report
report_given m outputs instances x = given_with (verdict m x) outputs instances (outcome m.a x.a.cells)
