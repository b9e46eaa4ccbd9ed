-- What a run comes to by what a world of two channels answers scan by scan.
use Rattle.std.specs.Prelude.{◌≡◌, ℕ, Result, Bool, false, ◌||◌, List, [], ◌∷◌, flat_map, length}
use Rattle.ps_model.specs.declared.channel.Fault.{Fault}
use Rattle.ps_model.specs.declared.channel.Verdict.{Verdict}
use Rattle.ps_model.specs.Network.{Network, instance_count}
use Rattle.ps_model.specs.Meaning.{Item, scan, restart}
use Rattle.ps_world.specs.Answers.{Answer as Answered, answers}
use Rattle.ps_world.specs.Orders.{run_events}
use Rattle.ps_world.specs.Whole.{Whole, machines_in, after_events}
use Rattle.ps_runs.specs.Outcomes.{Outcome, performed, anew, outcome_line}
use Rattle.ps_runs.specs.Performing.{trips_with}
use Rattle.ps_runs.specs.Tripping.{first_trip}
use Rattle.ps_runs.specs.Written.{HasEnded, WritesLines}
use Rattle.ps_runs.specs.declared.items.Cut.{Cut}
use Rattle.ps_runs.specs.declared.striking.StruckWorld.{StruckWorld}
use Rattle.ps_trace.specs.Scans.{Scans}

-- the answers of the scans among these items, of which the first has this number, from where a world stands
abbrev pub answered : Network → List Fault → (number : ℕ) → List Item → Whole → List Answered
answered net faults number items w =
    answers (machines_in w.setup) (length net.outputs) (instance_count net) faults number items w.state

-- the world after the events of these items
abbrev pub ran : List Fault → (number : ℕ) → List Item → Whole → Whole
ran faults number items w = after_events (run_events (machines_in w.setup) faults number items w.state) w

-- what comes of items whose scans have these answers
abbrev pub outcomes : List Item → List Answered → List (Outcome Verdict)
outcomes [] given = []
outcomes (restart ∷ items) given = anew ∷ outcomes items given
outcomes (scan now ins ∷ items) [] = []
outcomes (scan now ins ∷ items) (a ∷ given) = performed now a.verdict a.report ∷ outcomes items given

-- their lines
abbrev pub answer_lines : Network → List Item → List Answered → List ℕ
answer_lines net items given = flat_map (outcome_line net) (outcomes items given)

-- whether one of these answers trips
abbrev pub any_trips : List Answered → Bool
any_trips [] = false
any_trips (a ∷ given) = trips_with a.verdict || any_trips given

-- What a run from its beginning over these scans came to: the bytes that it wrote, and at its end the world after
-- all events, whether a scan tripped, and the first trip.
pub record RunsTo (net : Network) (scans : Scans) (p after : StruckWorld) (bytes : List ℕ)
    (ended : Result (Unit {0}) Cut) : Type 0 where
  pub written : WritesLines (answer_lines net scans.items (answered net p.faults 1 scans.items p.world)) scans.end
      bytes ended
  pub world : HasEnded ended → after.world ≡ ran p.faults 1 scans.items p.world
  pub tripped : HasEnded ended → after.tripped ≡ any_trips (answered net p.faults 1 scans.items p.world)
  pub trip : HasEnded ended → after.trip ≡ first_trip (machines_in p.world.setup) p.faults 1 scans.items p.world.state
