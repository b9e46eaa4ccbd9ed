-- What a world of two channels that faults strike makes of the items of a trace.
use Rattle.std.specs.Prelude.{◌≡◌, ◌⊎◌, ◌≤◌, ◌<◌, ℕ, suc, Bool, false, true, ◌||◌, List, [], ◌++◌, All, drop, length}
use Rattle.std.specs.List.Sorted.{IsNonDecreasingBy}
use Rattle.std.specs.Option.{option_or}
use Rattle.ps_model.specs.declared.channel.Fault.{Fault}
use Rattle.ps_model.specs.declared.channel.Verdict.{Verdict}
use Rattle.ps_model.specs.declared.channel.Verdict.TheVariants.{Released, Tripped, Down}
use Rattle.ps_model.specs.Network.{Network, instance_count}
use Rattle.ps_model.specs.Meaning.{Item, scan, restart}
use Rattle.ps_world.specs.Worlds.{World_state, Restart}
use Rattle.ps_world.specs.Verdicts.{verdict, report_given}
use Rattle.ps_world.specs.Whole.{Whole, machines_in, happened, after_events, IsSetupOf}
use Rattle.ps_world.specs.Orders.{of_scan, at_compare, scan_events}
use Rattle.ps_runs.specs.Outcomes.{Outcome, performed, anew}
use Rattle.ps_runs.specs.Tripping.{trip_at}
use Rattle.ps_runs.specs.declared.striking.StruckWorld.{StruckWorld}

-- the faults that are still to come
abbrev pub to_come : StruckWorld → List Fault
to_come p = drop p.next p.faults

-- The world is that of the application, no scan is begun in it, and the faults that are still to come are those of
-- later scans, in order.
pub record IsStruckWorldFor (net : Network) (p : StruckWorld) : Type 0 where
  pub setup : IsSetupOf net p.world.setup
  pub rest : p.world.state.begun ≡ false
  pub within : p.next ≤ length p.faults
  pub ordered : IsNonDecreasingBy (λ (f : Fault). f.scan) (to_come p)
  pub later : All (λ f. p.scans < f.scan) (to_come p)

-- the faults that strike the next scan
abbrev pub due : StruckWorld → List Fault
due p = of_scan (suc p.scans) (to_come p)

-- whether a scan with this verdict trips
abbrev pub trips_with : Verdict → Bool
trips_with Released = false
trips_with (Tripped cause) = true
trips_with Down = false

-- the state of the world at the Compare of the next scan
abbrev pub compared : StruckWorld → (now : ℕ) → List Bool → World_state
compared p now ins = at_compare (machines_in p.world.setup) (due p) now ins p.world.state

-- The next scan was made by its events, with the faults that are due, and has the verdict and the report of its
-- Compare.
pub record MakesScan (net : Network) (p : StruckWorld) (now : ℕ) (ins : List Bool) (outcome : Outcome Verdict)
    (after : StruckWorld) : Type 0 where
  pub compares : outcome ≡ performed now (verdict (machines_in p.world.setup) (compared p now ins))
      (report_given (machines_in p.world.setup) (length net.outputs) (instance_count net) (compared p now ins))
  pub happens : after.world ≡
      after_events (scan_events (machines_in p.world.setup) (due p) now ins p.world.state) p.world
  pub leaves : to_come p ≡ due p ++ to_come after
  pub counts : (to_come p ≡ []) ⊎ (after.scans ≡ suc p.scans)
  pub remembers : after.tripped ≡ (p.tripped || trips_with (verdict (machines_in p.world.setup) (compared p now ins)))
  pub trip : after.trip ≡ option_or p.trip (trip_at (machines_in p.world.setup) now (compared p now ins))

-- the same run with another world
abbrev pub with_world : Whole → StruckWorld → StruckWorld
with_world w p = record p { world = w }

-- An item has this outcome, and leaves the second world where the first one was.
abbrev pub Performs : Network → StruckWorld → Item → Outcome Verdict → StruckWorld → Type 0
Performs net p (scan now ins) outcome after = MakesScan net p now ins outcome after
Performs net p restart outcome after = (outcome ≡ anew) × (after ≡ with_world (happened Restart p.world) p)
