-- The first scan of a run that trips.
use Rattle.std.specs.Prelude.{ℕ, suc, List, [], ◌∷◌, Option, Some, None}
use Rattle.std.specs.Option.{option_or}
use Rattle.ps_model.specs.declared.channel.Cause.{Cause}
use Rattle.ps_model.specs.declared.channel.Cause.TheVariants.{Differ, Stuck, Trap, NoReport}
use Rattle.ps_model.specs.declared.channel.Channel.{Channel}
use Rattle.ps_model.specs.declared.channel.Channel.TheVariants.{A, B}
use Rattle.ps_model.specs.declared.channel.Fault.{Fault}
use Rattle.ps_model.specs.declared.channel.Verdict.{Verdict}
use Rattle.ps_model.specs.declared.channel.Verdict.TheVariants.{Released, Tripped, Down}
use Rattle.ps_model.specs.Meaning.{Item, scan, restart}
use Rattle.ps_machine.specs.Outcomes.{Outcome, outcome}
use Rattle.ps_world.specs.Worlds.{Machines, World_state, Restart, machine, channel}
use Rattle.ps_world.specs.Verdicts.{verdict, field_in}
use Rattle.ps_world.specs.Steps.{world_step, after}
use Rattle.ps_world.specs.Orders.{of_scan, at_compare, scan_events}
use Rattle.ps_runs.specs.declared.striking.Trip.{Trip}

-- what a channel gives at a moment of a world
abbrev pub outcome_in : Channel → Machines → World_state → Outcome
outcome_in ch m x = outcome (machine ch m) (channel ch x).cells

-- both values, where there are both
abbrev pub both : Option ℕ → Option ℕ → Option (ℕ × ℕ)
both None b = None
both (Some a) None = None
both (Some a) (Some b) = Some (a, b)

-- the values of channel A and of channel B in the field in which their reports differ, where this is the cause of a trip
abbrev pub values_with : Cause → (a b : Outcome) → Option (ℕ × ℕ)
values_with (Differ field) a b = both (field_in field a) (field_in field b)
values_with (Stuck ch) a b = None
values_with (Trap ch number) a b = None
values_with (NoReport ch) a b = None

-- the trip of a scan at a time that has this verdict on what the channels give, where it trips
abbrev pub trip_with : Verdict → (now : ℕ) → (a b : Outcome) → Option Trip
trip_with Released now a b = None
trip_with (Tripped cause) now a b = Some (record { now = now; cause = cause; values = values_with cause a b })
trip_with Down now a b = None

-- the trip of a scan at a time whose Compare comes in this state of a world, where it trips
abbrev pub trip_at : Machines → (now : ℕ) → World_state → Option Trip
trip_at m now z = trip_with (verdict m z) now (outcome_in A m z) (outcome_in B m z)

-- the first trip of the scans among these items, of which the first scan has this number, from where a world stands
abbrev pub first_trip : Machines → List Fault → (number : ℕ) → List Item → World_state → Option Trip
first_trip m faults number [] x = None
first_trip m faults number (restart ∷ items) x = first_trip m faults number items (world_step m Restart x)
first_trip m faults number (scan now ins ∷ items) x =
    let due = of_scan number faults in
    option_or (trip_at m now (at_compare m due now ins x))
    (first_trip m faults (suc number) items (after m (scan_events m due now ins x) x))
