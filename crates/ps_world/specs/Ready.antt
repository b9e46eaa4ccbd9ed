-- A world that no Spoil struck, between its scans.
use Rattle.std.specs.Prelude.{◌≡◌, ◌≤◌, ◌<◌, ◌^◌, ℕ, Bool, false, List, [], length}
use Rattle.ps_model.specs.declared.channel.Verdict.TheVariants.{Released}
use Rattle.ps_model.specs.Network.{Network, input_count}
use Rattle.ps_model.specs.Scanning.{State, Solves}
use Rattle.ps_model.specs.Meaning.{Past, nothing, last, old_state, passed, report}
use Rattle.ps_machine.specs.Phases.{AtRest}
use Rattle.ps_stackvm.specs.Stands.{StandsA}
use Rattle.ps_eqvm.specs.Stands.{StandsB}
use Rattle.ps_world.specs.Worlds.{Restart}
use Rattle.ps_world.specs.Verdicts.{verdict, report_given}
use Rattle.ps_world.specs.Whole.{Whole, machines_in, happened, after_events, IsSetupOf, IsWorldOf}
use Rattle.ps_world.specs.Orders.{at_compare, scan_events}

-- It is the application's world, no scan is begun, it is not tripped, and both channels stand for what the next scan
-- starts from.
pub record IsReady (net : Network) (w : Whole) (past : Past) : Type 0 where
  pub setup : IsSetupOf net w.setup
  pub rest : w.state.begun ≡ false
  pub up : w.state.tripped ≡ false
  pub a : AtRest net (machines_in w.setup).a (StandsA net) w.state.last w.state.a past
  pub b : AtRest net (machines_in w.setup).b (StandsB net) w.state.last w.state.b past

-- A scan with no fault is released with the report of this state, and the world is ready for the next one.
pub record ReleasesScan (net : Network) (w : Whole) (now : ℕ) (ins : List Bool) (new : State) : Type 0 where
  pub released : verdict (machines_in w.setup) (at_compare (machines_in w.setup) [] now ins w.state) ≡ Released
  pub given : report_given (machines_in w.setup) w.setup.sizes.outputs w.setup.sizes.instances (at_compare (machines_in w.setup) [] now ins w.state) ≡ report net new
  pub ready : IsReady net (after_events (scan_events (machines_in w.setup) [] now ins w.state) w) (last now new)

-- Worlds are ready at the beginning and after a restart, and every scan with no fault is released with the state that
-- solves it.
pub record QuietWorldsRelease (net : Network) : Type 0 where
  pub beginning : (w : Whole) → IsWorldOf net w → IsReady net w nothing
  pub restart : (w : Whole) → IsSetupOf net w.setup → IsReady net (happened Restart w) nothing
  pub scan : (w : Whole) (past : Past) (now : ℕ) (ins : List Bool) (new : State) → IsReady net w past → w.state.last ≤ now → now < 2 ^ 32 → length ins ≡ input_count net →
      Solves net (old_state net past) ins (passed past now) new → ReleasesScan net w now ins new
